use Rattle.std.proofs.Common.{sym, subst}
use Rattle.cli_tasks.specs.Changes.{ChangesChosen}
use Rattle.cli_tasks.specs.declared.changes.ChosenChange.{ChosenChange}
use Rattle.cli_tasks.proofs.changes.change_chosen.Goals as goal

pub returns-in-Hold : goal.returns-in-Hold
returns-in-Hold g c =
    let held = c.change_holds.ensures in
    subst (λ (change : ChosenChange). ChangesChosen g.S.Store c.args.ledger.now c.change_holds.new.archive c.change_holds.result change
    c.args.choice.now c.args.questions.now) (sym c.in-Hold.is) (record { falls = held.falls; done = held.done; failed = held.failed })
