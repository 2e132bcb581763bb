use Rattle.std.proofs.Common.{◌∙◌, ap, refl}
use Rattle.record_store.specs.declared.store.Store.{Store}
use Rattle.cli_tasks.proofs.volume_beginnings.unless_accepted.Goals as goal

pub returns-in-Ok : goal.returns-in-Ok
returns-in-Ok g c = (
  refl,
  record {
    store = c.args.archive;
    seals = c.in-Ok.ensures.opens.0;
    opened = c.in-Ok.ledger.kept;
    opens = c.in-Ok.ensures.opens.1;
    left = c.into_connection-in-Ok.ensures ∙ ap (λ (s : Store g.row.S.Denot). s.conn) c.into_store.ensures;
  },
)
