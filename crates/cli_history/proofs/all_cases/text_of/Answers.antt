use Rattle.cli_texts.proofs.TextLemmas.{if_ok_map}
use Rattle.cli_history.proofs.all_cases.text_of.Goals as goal

pub returns-then-is_json : goal.returns-then-is_json
returns-then-is_json c =
    rw c.if-is_json.true (if_ok_map c.object_of.result c.object_of.ensures (λ s is. (c.listed-case.result, c.listed-case.ensures, is.0, is.1, is.2)))
