use Rattle.std.proofs.Common.{Ok}
use Rattle.record_tables.specs.Changes.{Always}
use Rattle.record_tables.proofs.Loops.{puts_then, writes_next}
use Rattle.record_tables.proofs.renew.put_plan.Goals as goal

pub returns : goal.returns
returns g c =
    writes_next g.S.Store _ _ _ _
    (writes_next g.S.Store _ _ _ (Ok _) c.in_ok-renew_classes.ensures c.in_ok-renew_schedules.ensures
    (puts_then _ _ _ Always Always _ _ (λ t h. tt))) c.renew_dues.ensures (puts_then _ _ _ Always Always _ _ (λ t h. tt))
