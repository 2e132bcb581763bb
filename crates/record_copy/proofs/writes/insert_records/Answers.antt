use Rattle.std.proofs.Common.{map}
use Rattle.record_tables.specs.CodeRows.{record_of}
use Rattle.record_tables.proofs.Loops.{writes_next, writes_nothing}
use Rattle.record_copy.proofs.NewRowsLemmas.{records_next, none_yet_records}
use Rattle.record_copy.proofs.writes.insert_records.Goals as goal

pub loop-row-init : goal.loop-row-init
loop-row-init g c = writes_nothing g.S.Store _ (none_yet_records _ (map record_of c.args.rows.now))

pub loop-row-preserved : goal.loop-row-preserved
loop-row-preserved g c =
    writes_next g.S.Store _ _ _ _ c.loop-row.invariant c.in_ok-insert_record_row.ensures
    (records_next record_of _ _ _ c.args.rows.now c.row-item.result c.loop-row.row-index c.loop-row-test.true c.row-item.is)
