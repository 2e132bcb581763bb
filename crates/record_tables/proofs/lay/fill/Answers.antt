use Rattle.record_tables.specs.Changes.{Always, with_version}
use Rattle.record_tables.proofs.Loops.{puts_then, writes_next}
use Rattle.record_tables.proofs.lay.fill.Goals as goal

pub returns : goal.returns
returns g c =
    writes_next g.S.Store _ _ _ _ c.in_ok-put_plan.ensures c.put_version.ensures
    (puts_then _ _ _ Always Always _ with_version (λ t h. tt))
