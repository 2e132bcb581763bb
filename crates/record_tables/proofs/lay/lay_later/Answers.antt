use Rattle.std.proofs.Common.{arith, ◌∙◌, [], ◌∷◌}
use Rattle.sqlite.specs.Held.{state}
use Rattle.record_tables.specs.Tables.{schedule_table, due_table}
use Rattle.record_tables.proofs.Definitions.{defines_schedule}
use Rattle.record_tables.proofs.LayLemmas.{lays_then}
use Rattle.record_tables.proofs.lay.lay_later.Goals as goal

pub returns-clause-ok : goal.returns-clause-ok
returns-clause-ok g c clean inside =
    let a = state g.S.Store c.args.tx.now.conn.now in
    let b = state g.S.Store c.define_table.new.tx.conn.now in
    let e = state g.S.Store c.lay_dues.new.tx.conn.now in
    let one = c.in_ok-define_table.ensures.ok schedule_table defines_schedule (omega (arith, c.lay_dues.ensures.frame.survives.clean)) inside in
    let two = c.in_ok-lay_dues.ensures.ok clean (one.mode ∙ inside) in
    lays_then a b e (schedule_table ∷ []) (due_table ∷ []) one two
