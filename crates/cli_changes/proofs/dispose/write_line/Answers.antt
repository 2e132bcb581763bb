use Rattle.std.proofs.Common.{◌∙◌, subst}
use Rattle.std.proofs.lemmas.Result.{on_ok_weaker}
use Rattle.cli_console.specs.Sinks.{Writes}
use Rattle.cli_changes.proofs.dispose.write_line.Goals as goal

pub returns : goal.returns
returns g c =
    on_ok_weaker c.write.result (λ wrote. subst (λ t. Writes g.K.Sink.written c.args.sink.now c.write.new.self t)
    (c.as_bytes.ensures.value ∙ c.as_str.ensures.exact ∙ c.in_ok-text.ensures) wrote) c.write.ensures
