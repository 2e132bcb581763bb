use Rattle.record_tables.specs.Changes.{Always, without_settings}
use Rattle.record_tables.proofs.Loops.{puts_then, writes_next}
use Rattle.record_tables.proofs.renew.put_version.Goals as goal

pub returns : goal.returns
returns g c =
    writes_next g.S.Store _ _ _ _ c.in_ok-clear_settings.ensures c.insert_setting.ensures
    (puts_then _ _ _ Always Always without_settings _ (λ t h. tt))
