use Rattle.sqlite.specs.Held.{state}
use Rattle.record_tables.specs.Changes.{Always}
use Rattle.record_tables.proofs.Loops.{turned_alone}
use Rattle.record_store.proofs.classes.AdditionChange.make.Goals as goal

pub returns-clause-ok : goal.returns-clause-ok
returns-clause-ok g c clean inside =
    turned_alone (state g.S.Store c.args.tx.now.conn.now) (state g.S.Store c.insert_class.new.tx.conn.now) Always _
    (c.in_ok-insert_class.ensures.ok clean inside)
