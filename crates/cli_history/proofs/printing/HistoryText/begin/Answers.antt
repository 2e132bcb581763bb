use Rattle.std.proofs.Common.{◌∙◌, refl, subst}
use Rattle.cli_console.specs.Sinks.{Writes}
use Rattle.cli_history.proofs.printing.HistoryText.begin.Goals as goal

pub returns : goal.returns
returns g c = record {
  added = subst (λ t. Writes g.K.Sink.written c.args.self.now.sink c.write.new.self t) (c.as_bytes.ensures.value ∙ c.text_ahead-head.ensures)
      c.in_ok-write.ensures;
  counted = refl;
  json = refl;
  begun = refl;
}
