use Rattle.std.proofs.Common.{◌∙◌, ap}
use Rattle.record_store.specs.declared.store.Store.{Store}
use Rattle.cli_tasks.proofs.CaptureLaws.{delivered_by}
use Rattle.cli_tasks.proofs.changes.DeliverOneWork.work.Goals as goal

pub returns : goal.returns
returns g c =
    let it = c.args.self in
    let volumes = it.earlier.volumes in
    let opened = c.in-Ok-open_ledger.ensures in
    delivered_by g.A.Kept.Store (g.A.Archives.is_at it.earlier.archives.now) g.S.Store volumes.folder.now volumes.last it.author it.rules it.timing
    c.in-Ok.timing it.message c.args.archive opened.opens.0 c.filing_of-filing.result c.in-Ok-open_ledger.ledger c.deliver_to-ledger.result.0
    c.deliver_to-ledger.result.1 c.into_connection-2.result (record { back = c.in-Ok.ensures.back; same = c.in-Ok.ensures.same }) opened.opens.1
    opened.occasion (c.into_connection-2.ensures ∙ ap (λ (s : Store g.row.S.Denot). s.conn) c.into_store.ensures) c.deliver_to-ledger.ensures
