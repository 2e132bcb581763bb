use Rattle.std.proofs.Common.{arith, ◌∙◌}
use Rattle.sqlite.specs.Held.{state}
use Rattle.record_tables.proofs.DropLemmas.{emptied}
use Rattle.record_tables.proofs.lay.empty_dues.Goals as goal

pub returns-clause-ok : goal.returns-clause-ok
returns-clause-ok g c clean inside =
    let old = state g.S.Store c.args.tx.now.conn.now in
    let mid = state g.S.Store c.drop_dues.new.tx.conn.now in
    let new = state g.S.Store c.lay_dues.new.tx.conn.now in
    let dropped = c.in_ok-drop_dues.ensures.ok (omega (arith, c.lay_dues.ensures.frame.survives.clean)) inside in
    emptied old mid new dropped (c.in_ok-lay_dues.ensures.ok clean (dropped.mode ∙ inside))
