use Rattle.std.proofs.Common.{get_or}
use Rattle.record_tables.specs.CodeRows.{due_of}
use Rattle.record_tables.specs.declared.rows.DueRow.{DueRow}
use Rattle.record_tables.proofs.Loops.{none_yet_dues, dues_next, get_or_any, writes_next, writes_nothing}
use Rattle.record_tables.proofs.renew.insert_dues.Goals as goal

pub loop-due-init : goal.loop-due-init
loop-due-init g c = writes_nothing g.S.Store _ (none_yet_dues _)

pub loop-due-preserved : goal.loop-due-preserved
loop-due-preserved g c =
    let dues = c.args.dues.now in
    let i = c.loop-due.due-index in
    let d : DueRow = record { «record» = 0; day = 0 } in
    writes_next g.S.Store _ _ _ _ c.loop-due.invariant c.in_ok-insert_due_row.ensures
    (dues_next due_of _ _ _ dues (get_or dues i d) i c.loop-due-test.true (get_or_any dues i d _ c.loop-due-test.true) c.requires)
