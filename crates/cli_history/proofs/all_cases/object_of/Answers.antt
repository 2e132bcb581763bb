use Rattle.std.proofs.Common.{◌∙◌, ◌++◌, ap, string_bytes}
use Rattle.cli_console.specs.Sequences.{between}
use Rattle.cli_texts.proofs.TextLemmas.{if_ok_map}
use Rattle.cli_history.proofs.all_cases.object_of.Goals as goal

pub returns : goal.returns
returns c =
    if_ok_map c.in_array.result c.in_array.ensures (λ s same. (
      string_bytes c.in_ok-object.object,
      c.in_ok-object.ensures,
      same ∙ ap (λ t. between c.args.is_first ++ t) c.as_str.ensures.value,
    ))
