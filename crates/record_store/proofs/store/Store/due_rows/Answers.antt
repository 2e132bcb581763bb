use Rattle.std.proofs.Common.{ap, Err}
use Rattle.record_store.proofs.Causes.{not_own-lost_or}
use Rattle.record_store.proofs.store.Store.due_rows.Goals as goal

pub returns-in-Err-clause-lost : goal.returns-in-Err-clause-lost
returns-in-Err-clause-lost g c = λ order.
    not_own-lost_or _ c.in-Err.fault c.lost_or.ensures (λ e. c.in-Err.ensures.none (ap Err e) order)
