use Rattle.std.proofs.Common.{subst}
use Rattle.cli_console.specs.Sinks.{Writes}
use Rattle.cli_history.proofs.printing.HistoryText.push.Goals as goal

pub returns-clause-added : goal.returns-clause-added
returns-clause-added g c =
    subst (λ t. Writes g.K.Sink.written c.args.self.now.sink c.write.new.self t) c.as_bytes.ensures.value c.in_ok-write.ensures
