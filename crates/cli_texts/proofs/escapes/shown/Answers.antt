use Rattle.std.proofs.Common.{◌∙◌, sym}
use Rattle.cli_texts.proofs.TextLemmas.{text_shown, escapes_shown, if_ok_map}
use Rattle.cli_texts.proofs.escapes.shown.Goals as goal

pub returns-in-Ok : goal.returns-in-Ok
returns-in-Ok c =
    if_ok_map c.from_str.result c.from_str.ensures.ok (λ t is. is ∙ c.in-Ok.ensures.cases.0
    ∙ text_shown c.args.octets.now (sym c.has_control.ensures ∙ c.if-has_control.false) c.in-Ok.ensures.cases.1)

pub returns-in-Err : goal.returns-in-Err
returns-in-Err c =
    if_ok_map c.escaped-in-Err.result c.escaped-in-Err.ensures (λ t is. is
    ∙ escapes_shown c.args.octets.now (sym c.has_control.ensures ∙ c.if-has_control.false) (c.in-Err.ensures.cases.0))
