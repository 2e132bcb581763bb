use Rattle.std.proofs.Common.{arith, ◌∙◌, [], ◌∷◌}
use Rattle.sqlite.specs.Held.{state}
use Rattle.record_tables.specs.Tables.{due_table, due_index}
use Rattle.record_tables.proofs.Definitions.{defines_due, defines_index}
use Rattle.record_tables.proofs.LayLemmas.{lays_then}
use Rattle.record_tables.proofs.lay.lay_dues.Goals as goal

pub returns-clause-ok : goal.returns-clause-ok
returns-clause-ok g c clean inside =
    let a = state g.S.Store c.args.tx.now.conn.now in
    let b = state g.S.Store c.define_table.new.tx.conn.now in
    let e = state g.S.Store c.define_index.new.tx.conn.now in
    let one = c.in_ok-define_table.ensures.ok due_table defines_due (omega (arith, c.define_index.ensures.frame.survives.clean)) inside in
    let two = c.in_ok-define_index.ensures.ok due_table due_index defines_index clean (one.mode ∙ inside) one.made.0.stands in
    lays_then a b e (due_table ∷ []) [] one two.0

pub returns-clause-index : goal.returns-clause-index
returns-clause-index g c clean inside =
    let one = c.in_ok-define_table.ensures.ok due_table defines_due (omega (arith, c.define_index.ensures.frame.survives.clean)) inside in
    (c.in_ok-define_index.ensures.ok due_table due_index defines_index clean (one.mode ∙ inside) one.made.0.stands).1
