use Rattle.std.proofs.Common.{sym, subst}
use Rattle.cli_tasks.specs.Changes.{Makes}
use Rattle.cli_tasks.specs.declared.changes.Changing.{Changing}
use Rattle.cli_tasks.proofs.changes.ChangingLedgerWork.perform.Goals as goal

pub returns-in-Dispose : goal.returns-in-Dispose
returns-in-Dispose g c =
    subst (λ (change : Changing). Makes g.S.Store c.args.ledger.now c.dispose_due.new.ledger c.dispose_due.result change c.args.seals.now)
    (sym c.in-Dispose.is) c.dispose_due.ensures
