use Rattle.std.proofs.Common.{get_or}
use Rattle.record_tables.specs.CodeRows.{due_of}
use Rattle.record_tables.specs.declared.rows.DueRow.{DueRow}
use Rattle.record_tables.proofs.Loops.{get_or_any, writes_next, writes_nothing}
use Rattle.record_store.proofs.CaptureLemmas.{more_dues_next, no_more_dues}
use Rattle.record_store.proofs.changes.insert_due_days.Goals as goal

pub loop-due-init : goal.loop-due-init
loop-due-init g c = writes_nothing g.S.Store _ (no_more_dues _)

pub loop-due-preserved : goal.loop-due-preserved
loop-due-preserved g c =
    let dues = c.args.dues.now in
    let i = c.loop-due.due-index in
    let d : DueRow = record { «record» = 0; day = 0 } in
    writes_next g.S.Store _ _ _ _ c.loop-due.invariant c.in_ok-insert_due.ensures.last
    (more_dues_next due_of _ _ _ dues (get_or dues i d) i c.loop-due-test.true (get_or_any dues i d _ c.loop-due-test.true))
