use Rattle.record_tables.specs.CodeRows.{hold_entry_of}
use Rattle.record_tables.proofs.Loops.{writes_next, writes_nothing}
use Rattle.record_copy.proofs.NewRowsLemmas.{holds_next, none_yet_holds}
use Rattle.record_copy.proofs.writes.insert_holds.Goals as goal

pub loop-hold-init : goal.loop-hold-init
loop-hold-init g c = writes_nothing g.S.Store _ (none_yet_holds _)

pub loop-hold-preserved : goal.loop-hold-preserved
loop-hold-preserved g c =
    writes_next g.S.Store _ _ _ _ c.loop-hold.invariant c.in_ok-insert_hold_row.ensures
    (holds_next hold_entry_of _ _ _ c.args.holds.now c.hold-item.result c.loop-hold.hold-index c.loop-hold-test.true c.hold-item.is)
