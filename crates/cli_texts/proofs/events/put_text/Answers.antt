use Rattle.std.proofs.Common.{◌∙◌, ◌++◌, ap, ℕ, List}
use Rattle.std.proofs.lemmas.Result.{on_ok_weaker}
use Rattle.cli_texts.specs.Words.{words}
use Rattle.cli_texts.proofs.TextLemmas.{text_words, escaped_words}
use Rattle.cli_texts.proofs.events.put_text.Goals as goal

pub returns-in-Ok : goal.returns-in-Ok
returns-in-Ok c =
    on_ok_weaker c.value.result (λ is. is ∙ ap (λ (ws : List ℕ). c.args.line.now ++ ws) (ap words c.in-Ok.ensures.cases.0
    ∙ text_words c.args.octets.now c.in-Ok.ensures.cases.1)) c.value.ensures

pub returns-in-Err : goal.returns-in-Err
returns-in-Err c =
    on_ok_weaker c.escaped.result (λ is. is ∙ ap (λ (ws : List ℕ). c.args.line.now ++ ws)
    (escaped_words c.args.octets.now c.in-Err.ensures.cases.0)) c.escaped.ensures
