use Rattle.record_tables.specs.CodeRows.{rule_of}
use Rattle.record_tables.proofs.Loops.{none_yet_schedules, schedules_next, writes_next, writes_nothing}
use Rattle.record_tables.proofs.renew.insert_schedules.Goals as goal

pub loop-schedule-init : goal.loop-schedule-init
loop-schedule-init g c = writes_nothing g.S.Store _ (none_yet_schedules _)

pub loop-schedule-preserved : goal.loop-schedule-preserved
loop-schedule-preserved g c =
    writes_next g.S.Store _ _ _ _ c.loop-schedule.invariant c.in_ok-insert_schedule.ensures
    (schedules_next rule_of _ _ _ c.args.schedules.now c.schedule-item.result c.loop-schedule.schedule-index
    c.loop-schedule-test.true c.schedule-item.is)
