use Rattle.std.proofs.Common.{ap, subst}
use Rattle.record_archive.specs.Archive.{Archive}
use Rattle.record_adoption.specs.Adoption.{CommonLists, TellsPlan}
use Rattle.record_adoption.proofs.AdoptReads.{first_lists, first_listed, first_read, first_sound, tells_first, refused}
use Rattle.record_adoption.proofs.AdoptRows.{archive_small}
use Rattle.record_adoption.proofs.AdoptSettled.{keyed_of}
use Rattle.record_adoption.proofs.version.FirstVersion.read.Goals as goal

pub returns-in_err-rows-clause-none : goal.returns-in_err-rows-clause-none
returns-in_err-rows-clause-none g c clean is = λ (a : Archive) h archive.
    c.in_err-rows.ensures.none clean (refused c.from_residual.ensures.1 is) (first_lists a)
    (first_listed h (keyed_of a archive)) (archive_small a archive)

pub returns-in_err-plan-clause-none : goal.returns-in_err-plan-clause-none
returns-in_err-plan-clause-none g c clean is = λ (a : Archive) h archive.
    let lists = c.in_ok-rows.ensures.tells clean (first_lists a) (first_listed h (keyed_of a archive)) in
    c.in_err-plan.ensures.none (refused c.from_residual-in_err-plan.ensures.1 is) a.plan archive.plan (tells_first a lists)

pub returns-in_err-overview-clause-none : goal.returns-in_err-overview-clause-none
returns-in_err-overview-clause-none g c clean is = λ (a : Archive) h archive.
    let lists = c.in_ok-rows.ensures.tells clean (first_lists a) (first_listed h (keyed_of a archive)) in
    let plan = c.in_ok-plan.ensures.plan a.plan archive.plan (tells_first a lists) in
    c.in_err-overview.ensures.none (refused c.from_residual-in_err-overview.ensures.1 is) a plan (ap (λ (l : CommonLists). l.archive) lists) archive

pub returns-clause-found : goal.returns-clause-found
returns-clause-found g c clean = λ (a : Archive) h keyed.
    let lists = c.in_ok-rows.ensures.tells clean (first_lists a) (first_listed h keyed) in
    let plan = c.in_ok-plan.ensures.plan a.plan keyed.plan (tells_first a lists) in (
      subst (TellsPlan c.in_ok-plan_rows.plan_rows) plan c.in_ok-plan_rows.ensures,
      c.in_ok-overview.ensures.found a plan keyed (ap (λ (l : CommonLists). l.archive) lists),
    )

pub returns-clause-sound : goal.returns-clause-sound
returns-clause-sound g c clean = λ t ps cs d.
    let lists = c.in_ok-rows.ensures.tells clean _ (first_read c.in_ok-plan.plan d) in
    first_sound d lists c.in_ok-plan.ensures.sound.0 c.in_ok-plan.ensures.sound.1 c.in_ok-overview.ensures.sound
