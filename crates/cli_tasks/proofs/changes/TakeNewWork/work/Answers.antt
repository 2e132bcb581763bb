use Rattle.std.proofs.Common.{◌∙◌, ap}
use Rattle.record_store.specs.declared.store.Store.{Store}
use Rattle.cli_tasks.proofs.RoundLaws.{taken_by}
use Rattle.cli_tasks.proofs.changes.TakeNewWork.work.Goals as goal

pub returns : goal.returns
returns g c =
    let it = c.args.self in
    let volumes = it.earlier.volumes in
    let opened = c.in-Ok-open_ledger.ensures in
    taken_by g.A.Kept.Store (g.A.Archives.is_at it.earlier.archives.now) g.S.Store volumes.folder.now volumes.last it.author it.job
    c.with_timing.result it.rounds it.place c.timing.result c.in-Ok.timing c.args.archive opened.opens.0 c.filing_of-filing.result
    c.in-Ok-open_ledger.ledger c.take_new-ledger.result.0 c.take_new-ledger.result.1 c.into_connection-2.result c.timing.ensures c.with_timing.ensures
    (record { back = c.in-Ok.ensures.back; same = c.in-Ok.ensures.same }) opened.opens.1 opened.occasion
    (c.into_connection-2.ensures ∙ ap (λ (s : Store g.row.S.Denot). s.conn) c.into_store.ensures) c.take_new-ledger.ensures
