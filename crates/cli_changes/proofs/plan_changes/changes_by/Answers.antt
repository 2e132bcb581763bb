use Rattle.std.proofs.Common.{subst, ap, ◌∙◌, map, None}
use Rattle.jiff.specs.Words.{epoch_day}
use Rattle.record_archive.specs.Archive.{Archive}
use Rattle.record_choice.specs.Choices.{chosen}
use Rattle.record_choice.specs.Entries.{entry_of}
use Rattle.cli_changes.specs.PlanChanges.{CountAlso, live_entries}
use Rattle.cli_changes.proofs.ChangeLemmas.{all_changes}
use Rattle.cli_changes.proofs.plan_changes.changes_by.Goals as goal

pub returns-clause-changes : goal.returns-clause-changes
returns-clause-changes g c = λ clean (a : Archive) s.
    let taken = c.in_ok-read_chosen.ensures.taken clean a s in
    let was = c.none.result in
    let is = c.read_chosen.new.reader.changes in
    let live = taken.1 ∙ ap (λ choice. map (entry_of a) (chosen None choice a)) c.live.ensures in
    all_changes a.plan c.args.plan.now (epoch_day c.args.day) (live_entries a) was is c.none.ensures.all c.none.ensures.by_class
    (subst (λ es. CountAlso a.plan c.args.plan.now (epoch_day c.args.day) es was is) live taken.2.counted)
