use Rattle.std.proofs.Common.{refl, subst, ◌∷◌, []}
use Rattle.jiff.specs.Words.{epoch_day}
use Rattle.record_archive.specs.Archive.{Archive}
use Rattle.record_choice.specs.Entries.{entry_view}
use Rattle.cli_changes.specs.PlanChanges.{CountAlso}
use Rattle.cli_changes.proofs.plan_changes.ChangingReader.take.Goals as goal

pub returns-clause-taken : goal.returns-clause-taken
returns-clause-taken g c = λ clean (a : Archive) s told.
    let was = c.args.self.now in
    let plan = c.plan.ensures a s in
    record {
      plan = refl;
      today = refl;
      counted = subst
          (λ p. CountAlso p was.plan.now (epoch_day was.today) (entry_view c.args.entry.now ∷ []) was.changes c.add.new.self)
          plan c.in_ok-add.ensures;
    }
