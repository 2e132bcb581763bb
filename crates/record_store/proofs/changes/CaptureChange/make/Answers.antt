use Rattle.std.proofs.Common.{arith, ◌∙◌}
use Rattle.sqlite.specs.Held.{state}
use Rattle.record_tables.proofs.Loops.{turned_alone}
use Rattle.record_store.proofs.CaptureLemmas.{puts_capture}
use Rattle.record_store.proofs.changes.CaptureChange.make.Goals as goal

pub returns-clause-ok : goal.returns-clause-ok
returns-clause-ok g c clean inside =
    let first = state g.S.Store c.args.tx.now.conn.now in
    let second = state g.S.Store c.insert_message.new.tx.conn.now in
    let third = state g.S.Store c.insert_records.new.tx.conn.now in
    let last = state g.S.Store c.insert_due_days.new.tx.conn.now in
    let one = c.in_ok-insert_message.ensures.ok (omega (
      arith,
      c.insert_records.ensures.frame.survives.clean,
      c.insert_due_days.ensures.frame.survives.clean,
    )) inside in
    let two = c.in_ok-insert_records.ensures.ok (omega (arith, c.insert_due_days.ensures.frame.survives.clean)) (one.mode ∙ inside) in
    let three = c.in_ok-insert_due_days.ensures.ok clean (two.mode ∙ one.mode ∙ inside) in
    turned_alone first last _ _ (puts_capture first second third last c.args.self.first _ _ _ one two three)

pub returns-clause-goes_on : goal.returns-clause-goes_on
returns-clause-goes_on g c clean inside =
    let one = c.in_ok-insert_message.ensures.ok (omega (
      arith,
      c.insert_records.ensures.frame.survives.clean,
      c.insert_due_days.ensures.frame.survives.clean,
    )) inside in
    let two = c.in_ok-insert_records.ensures.ok (omega (arith, c.insert_due_days.ensures.frame.survives.clean)) (one.mode ∙ inside) in
    let three = c.in_ok-insert_due_days.ensures.ok clean (two.mode ∙ one.mode ∙ inside) in
    record {
      committed = three.committed ∙ two.committed ∙ one.committed;
      mode = three.mode ∙ two.mode
          ∙ one.mode;
      is_open = three.is_open ∙ two.is_open ∙ one.is_open;
    }
