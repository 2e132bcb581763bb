use Rattle.std.proofs.Common.{◌∙◌, subst}
use Rattle.std.proofs.lemmas.Result.{on_ok_weaker}
use Rattle.cli_readings.specs.Lists.{HasText}
use Rattle.cli_console.specs.Sinks.{Writes}
use Rattle.cli_readings.proofs.list.ListText.end.Goals as goal

pub returns-clause-text : goal.returns-clause-text
returns-clause-text g c =
    let has = HasText g.K.Sink.written in
    on_ok_weaker c.put.result (λ put. subst (λ t. Writes has c.args.self.now c.put.new.self t) (c.as_str.ensures.value ∙ c.in_ok-after.ensures) put)
    c.put.ensures.text
