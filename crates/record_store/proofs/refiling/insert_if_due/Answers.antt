use Rattle.std.proofs.Common.{ap, sym}
use Rattle.sqlite.specs.Held.{state}
use Rattle.record_tables.specs.Changes.{Always}
use Rattle.record_tables.proofs.Loops.{nothing_yet, writes_nothing}
use Rattle.record_store.specs.Refiling.{with_due_if}
use Rattle.record_store.proofs.refiling.insert_if_due.Goals as goal

pub returns-in-Some : goal.returns-in-Some
returns-in-Some g c = rw c.in-Some.is c.insert_due.ensures.placed

pub returns-in-None : goal.returns-in-None
returns-in-None g c =
    writes_nothing g.S.Store _
    (nothing_yet (state g.S.Store c.args.tx.now.conn.now) Always (with_due_if c.args.number c.args.due) (λ t all.
    ap (λ o. with_due_if c.args.number o t) (sym c.in-None.is)))
