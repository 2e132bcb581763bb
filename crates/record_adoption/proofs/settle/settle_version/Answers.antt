use Rattle.std.proofs.Common.{◌∙◌, ap, map}
use Rattle.sqlite.specs.Effect.{Database}
use Rattle.sqlite.specs.State.{HasCleanDisk}
use Rattle.sqlite.specs.Held.{state}
use Rattle.record_archive.specs.Archive.{Archive}
use Rattle.record_tables.specs.CodeRows.{due_of}
use Rattle.record_reads.proofs.TypedLemmas.{never_none, on_err}
use Rattle.record_adoption.specs.Adoption.{FindsWith, IsKeyed, IsOverview, LeavesFound}
use Rattle.record_adoption.proofs.AdoptReads.{Reads, holds_after, refused}
use Rattle.record_adoption.proofs.AdoptSettled.{leaves_read, leaves_then}
use Rattle.record_adoption.proofs.settle.settle_version.Given.{Over}
use Rattle.record_adoption.proofs.settle.settle_version.Goals.{In_ok-contents, After-renew}
use Rattle.record_adoption.proofs.settle.settle_version.Goals as goal

contents_read : (g : Over) (c : In_ok-contents g) → Reads g.S.Store g.V.Version.are_there c.args.conn.now c.read.new.conn
contents_read g c = record { sees = c.read.ensures.sees; same = c.in_ok-contents.ensures.same }

-- what is read of an archive, which is still there
found : (g : Over) (c : After-renew g) → HasCleanDisk (state g.S.Store c.read.new.conn) → (a : Archive)
    → g.V.Version.finds (state g.S.Store c.args.conn.now).now a → IsKeyed a → IsOverview c.in_ok-contents.contents.overview a
    × FindsWith g.V.Version.finds c.in_ok-contents.contents.plan_rows (map due_of c.as_slice.result.now) (state g.S.Store c.read.new.conn).now a
found g c clean a h keyed =
    let it = c.in_ok-contents.ensures.found clean a h keyed in
    let read = contents_read g (goal.at.After-renew g c).In_ok-contents in
    let still = holds_after (λ (db : Database). g.V.Version.finds db a) read clean (g.met.V.Version.has_tables _ a h) h in
    (it.1, (still, it.0, ap (map due_of) c.as_slice.ensures.value ∙ it.1.dues))

-- a crash leaves it stored, or what was there
crash : (g : Over) (c : After-renew g) → LeavesFound g.S.Store c.args.conn.now c.renew.new.conn g.V.Version.finds IsKeyed
crash g c =
    leaves_then c.renew.new.conn _ _ (contents_read g (goal.at.After-renew g c).In_ok-contents) (λ a is. g.met.V.Version.has_tables _ a is.0)
    (λ clean a is. (found g c clean a is.0 is.1).1) c.renew.ensures.crash

pub returns-clause-found : goal.returns-clause-found
returns-clause-found g c clean = λ (a : Archive) h keyed.
    let it = found g (goal.at.returns-clause-found g c).After-renew (c.renew.ensures.falls clean) a h keyed in
    (it.0, c.in_ok-renew.ensures.ok clean a it.1)

pub returns-clause-sound : goal.returns-clause-sound
returns-clause-sound g c clean = c.in_ok-contents.ensures.sound (c.renew.ensures.falls clean)

pub returns-clause-typed : goal.returns-clause-typed
returns-clause-typed g c clean = c.in_ok-contents.ensures.typed (c.renew.ensures.falls clean)

pub returns-clause-crash : goal.returns-clause-crash
returns-clause-crash g c = crash g (goal.at.returns-clause-crash g c).After-renew

pub returns-in_err-contents-clause-none : goal.returns-in_err-contents-clause-none
returns-in_err-contents-clause-none g c clean is = c.in_err-contents.ensures.none clean (refused c.from_residual.ensures.1 is)

pub returns-in_err-contents-clause-err : goal.returns-in_err-contents-clause-err
returns-in_err-contents-clause-err g c clean is_open = on_err c.from_residual.result _ (c.read.ensures.sees.quiet c.requires clean is_open)

pub returns-in_err-contents-clause-crash : goal.returns-in_err-contents-clause-crash
returns-in_err-contents-clause-crash g c = leaves_read _ c.read.ensures.sees (λ a is. g.met.V.Version.has_tables _ a is.0)

pub returns-in_err-renew-clause-none : goal.returns-in_err-renew-clause-none
returns-in_err-renew-clause-none g c clean is =
    absurd (never_none _ c.in_err-renew.field-0.0 c.from_residual-in_err-renew.ensures.1 is)

pub returns-in_err-renew-clause-err : goal.returns-in_err-renew-clause-err
returns-in_err-renew-clause-err g c clean is_open =
    let last = c.in_err-renew.ensures.err clean is_open in
    let first = c.read.ensures.sees.quiet c.requires (c.renew.ensures.falls clean) last.0 in
    on_err c.from_residual-in_err-renew.result _ (first.0, last.1 ∙ first.1)

pub returns-in_err-renew-clause-crash : goal.returns-in_err-renew-clause-crash
returns-in_err-renew-clause-crash g c = crash g (goal.at.returns-in_err-renew-clause-crash g c).After-renew
