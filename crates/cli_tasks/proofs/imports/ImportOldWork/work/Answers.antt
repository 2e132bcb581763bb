use Rattle.std.specs.Prelude.{string_bytes}
use Rattle.std.proofs.Common.{◌∙◌, ap}
use Rattle.record_store.specs.declared.store.Store.{Store}
use Rattle.cli_tasks.proofs.ImportLaws.{imported_by}
use Rattle.cli_tasks.proofs.imports.ImportOldWork.work.Goals as goal

pub returns : goal.returns
returns g c =
    let it = c.args.self in
    let opened = c.in-Ok-open_ledger.ensures in
    imported_by g.S.Store it.author it.job it.rounds c.prepared.new.rounds it.place (string_bytes c.in-Ok.named.officer) c.args.archive
    c.prepared.new.archive opened.opens.0 c.filing_of-filing.result c.in-Ok-open_ledger.ledger c.import_mail-ledger.result
    c.into_connection-2.result c.in-Ok.ensures opened.opens.1 opened.occasion
    (c.into_connection-2.ensures ∙ ap (λ (s : Store g.row.S.Denot). s.conn) c.into_store.ensures) c.import_mail-ledger.ensures
