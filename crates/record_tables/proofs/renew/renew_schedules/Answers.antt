use Rattle.std.proofs.Common.{map, refl}
use Rattle.record_tables.specs.Changes.{Always, HasNoSchedules, without_schedules, with_schedules}
use Rattle.record_tables.specs.CodeRows.{rule_of}
use Rattle.record_tables.proofs.Loops.{puts_then, writes_next}
use Rattle.record_tables.proofs.renew.renew_schedules.Goals as goal

pub returns : goal.returns
returns g c =
    writes_next g.S.Store _ _ _ _ c.in_ok-clear_schedules.ensures c.insert_schedules.ensures
    (puts_then _ _ _ Always HasNoSchedules without_schedules (with_schedules (map rule_of c.args.schedules.now)) (λ t h. refl))
