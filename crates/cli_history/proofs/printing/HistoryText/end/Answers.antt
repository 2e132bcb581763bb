use Rattle.std.proofs.Common.{◌∙◌, subst}
use Rattle.cli_console.specs.Sinks.{Writes}
use Rattle.cli_history.proofs.PrintingLaws.{all_ended}
use Rattle.cli_history.proofs.printing.HistoryText.end.Goals as goal

pub returns : goal.returns
returns g c =
    all_ended g.K.Sink.written c.args.self c.begin.new.self c.write.new.self c.in_ok-begin.ensures
    (subst (λ t. Writes g.K.Sink.written c.begin.new.self.sink c.write.new.self t) (c.as_bytes.ensures.value ∙ c.text_behind-end.ensures)
    c.in_ok-write.ensures)
