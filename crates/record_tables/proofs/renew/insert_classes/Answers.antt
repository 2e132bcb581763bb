use Rattle.record_tables.specs.CodeRows.{class_entry_of}
use Rattle.record_tables.proofs.Loops.{none_yet_classes, classes_next, writes_next, writes_nothing}
use Rattle.record_tables.proofs.renew.insert_classes.Goals as goal

pub loop-class-init : goal.loop-class-init
loop-class-init g c = writes_nothing g.S.Store _ (none_yet_classes _)

pub loop-class-preserved : goal.loop-class-preserved
loop-class-preserved g c =
    writes_next g.S.Store _ _ _ _ c.loop-class.invariant c.in_ok-insert_class_row.ensures
    (classes_next class_entry_of _ _ _ c.args.classes.now c.class-item.result c.loop-class.class-index c.loop-class-test.true c.class-item.is)
