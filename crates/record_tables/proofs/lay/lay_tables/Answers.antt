use Rattle.std.proofs.Common.{arith, ◌∙◌, [], ◌∷◌}
use Rattle.sqlite.specs.Held.{state}
use Rattle.record_tables.specs.Tables.{message_table, record_table, hold_table, meta_table, class_table, schedule_table, due_table}
use Rattle.record_tables.proofs.Definitions.{defines_message, defines_record, defines_hold, defines_meta, defines_class}
use Rattle.record_tables.proofs.LayLemmas.{lays_then}
use Rattle.record_tables.proofs.lay.lay_tables.Goals as goal

pub returns-clause-ok : goal.returns-clause-ok
returns-clause-ok g c clean inside =
    let s0 = state g.S.Store c.args.tx.now.conn.now in
    let s1 = state g.S.Store c.define_table.new.tx.conn.now in
    let s2 = state g.S.Store c.define_table-2.new.tx.conn.now in
    let s3 = state g.S.Store c.define_table-3.new.tx.conn.now in
    let s4 = state g.S.Store c.define_table-4.new.tx.conn.now in
    let s5 = state g.S.Store c.define_table-5.new.tx.conn.now in
    let s6 = state g.S.Store c.lay_later.new.tx.conn.now in
    let k2 = c.define_table-2.ensures.frame.survives.clean in
    let k3 = c.define_table-3.ensures.frame.survives.clean in
    let k4 = c.define_table-4.ensures.frame.survives.clean in
    let k5 = c.define_table-5.ensures.frame.survives.clean in
    let k6 = c.lay_later.ensures.frame.survives.clean in
    let one = c.in_ok-define_table.ensures.ok message_table defines_message (omega (arith, k2, k3, k4, k5, k6)) inside in
    let two = c.in_ok-define_table-2.ensures.ok record_table defines_record (omega (arith, k3, k4, k5, k6)) (one.mode ∙ inside) in
    let three = c.in_ok-define_table-3.ensures.ok hold_table defines_hold (omega (arith, k4, k5, k6)) (two.mode ∙ one.mode ∙ inside) in
    let four = c.in_ok-define_table-4.ensures.ok meta_table defines_meta (omega (arith, k5, k6)) (three.mode ∙ two.mode ∙ one.mode ∙ inside) in
    let five = c.in_ok-define_table-5.ensures.ok class_table defines_class (omega (arith, k6))
    (four.mode ∙ three.mode ∙ two.mode ∙ one.mode ∙ inside) in
    let six = c.in_ok-lay_later.ensures.ok clean (five.mode ∙ four.mode ∙ three.mode ∙ two.mode ∙ one.mode ∙ inside) in
    let later = schedule_table ∷ due_table ∷ [] in
    lays_then s0 s1 s6 (message_table ∷ []) (record_table ∷ hold_table ∷ meta_table ∷ class_table ∷ later) one
    (lays_then s1 s2 s6 (record_table ∷ []) (hold_table ∷ meta_table ∷ class_table ∷ later) two
    (lays_then s2 s3 s6 (hold_table ∷ []) (meta_table ∷ class_table ∷ later) three
    (lays_then s3 s4 s6 (meta_table ∷ []) (class_table ∷ later) four
    (lays_then s4 s5 s6 (class_table ∷ []) later five six))))
