use Rattle.std.proofs.Common.{◌∙◌, ap, refl}
use Rattle.record_store.specs.declared.store.Store.{Store}
use Rattle.cli_tasks.proofs.volume_soundness.judge_noted.Goals as goal

pub returns-in-Ok : goal.returns-in-Ok
returns-in-Ok g c = (
  refl,
  λ (before : Store g.row.S.Denot) opens. record {
    opened = c.args.noted;
    opens = opens;
    read = c.judge_events-judged.new.noted;
    tells = c.in-Ok.ensures;
    left = c.into_connection-connection.ensures ∙ ap (λ (s : Store g.row.S.Denot). s.conn) c.into_store.ensures;
  },
)
