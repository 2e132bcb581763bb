use Rattle.std.proofs.Common.{◌∙◌, ap}
use Rattle.record_store.specs.declared.store.Store.{Store}
use Rattle.cli_tasks.proofs.HistoryLaws.{is_new}
use Rattle.cli_tasks.proofs.volume_beginnings.begin_after.Goals as goal

pub returns-in-Ok-open_noted : goal.returns-in-Ok-open_noted
returns-in-Ok-open_noted g c =
    is_new g.S.Store c.begin_with-archive.result.0 c.in-Ok-open_noted.noted c.ended.result.0 c.in-Ok.events c.ended.result.1
    c.in-Ok-open_noted.ensures.ok c.ended.ensures.left c.ended.ensures.events
