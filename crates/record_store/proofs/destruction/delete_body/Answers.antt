use Rattle.std.proofs.Common.{ap, sym}
use Rattle.sqlite.specs.Held.{state}
use Rattle.record_tables.specs.Changes.{Always}
use Rattle.record_tables.proofs.Loops.{nothing_yet, writes_nothing}
use Rattle.record_store.specs.Destruction.{without_body}
use Rattle.record_store.proofs.destruction.delete_body.Goals as goal

pub returns-in-Some : goal.returns-in-Some
returns-in-Some g c = rw c.in-Some.is c.delete_message.ensures

pub returns-in-None : goal.returns-in-None
returns-in-None g c =
    writes_nothing g.S.Store _
    (nothing_yet (state g.S.Store c.args.tx.now.conn.now) Always (without_body c.args.last) (λ t all. ap (λ o. without_body o t) (sym c.in-None.is)))
