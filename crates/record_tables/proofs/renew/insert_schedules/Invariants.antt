use Rattle.std.proofs.Common.{map, take, Ok}
use Rattle.sqlite.specs.declared.error.Error.{Error}
use Rattle.record_tables.specs.Steps.{Writes}
use Rattle.record_tables.specs.Changes.{HasNoSchedules, with_schedules}
use Rattle.record_tables.specs.CodeRows.{rule_of}
use Rattle.record_tables.proofs.renew.insert_schedules.Given as goal

abbrev pub invariant-loop-schedule : goal.invariant-loop-schedule
invariant-loop-schedule g l =
    Writes {T = Unit} {E = Error} g.S.Store l.fn.tx.conn l.tx.conn (Ok tt) HasNoSchedules
    (with_schedules (map rule_of (take l.schedule-index l.schedules)))
