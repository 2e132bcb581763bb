use Rattle.sqlite.specs.Held.{state}
use Rattle.record_tables.proofs.DropLemmas.{drops_dues}
use Rattle.record_tables.proofs.lay.drop_dues.Goals as goal

pub returns-clause-ok : goal.returns-clause-ok
returns-clause-ok g c clean inside =
    drops_dues (state g.S.Store c.args.tx.now.conn.now) (state g.S.Store c.execute.new.self.conn.now)
    c.in_ok-execute.field-0 inside (c.in_ok-execute.ensures.runs clean inside)
