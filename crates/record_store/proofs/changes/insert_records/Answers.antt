use Rattle.record_tables.proofs.Loops.{writes_next, writes_nothing}
use Rattle.record_store.proofs.CaptureLemmas.{records_next, no_records}
use Rattle.record_store.proofs.changes.insert_records.Goals as goal

pub loop-i-init : goal.loop-i-init
loop-i-init g c = writes_nothing g.S.Store _ (no_records c.args.first c.args.day _)

pub loop-i-preserved : goal.loop-i-preserved
loop-i-preserved g c =
    writes_next g.S.Store _ _ _ _ c.loop-i.invariant (rw c.as_slice.ensures at c.in_ok-insert_record.ensures)
    (records_next _ _ _ c.args.first c.args.day c.as_slice-paths.result.now c.index-paths-i.result c.loop-i.i
    c.loop-i-test.true c.index-paths-i.is)
