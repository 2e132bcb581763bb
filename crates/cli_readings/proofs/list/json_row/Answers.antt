use Rattle.std.proofs.Common.{◌∙◌, ◌++◌, ap₂, string_bytes}
use Rattle.cli_readings.proofs.list.json_row.Goals as goal

pub returns : goal.returns
returns c = (
  string_bytes c.in_ok-object.object,
  c.in_ok-extend_from_slice.ensures.items
      ∙ ap₂ (λ x y. x ++ y) (c.in_ok-text.ensures.items ∙ c.as_bytes.ensures.value ∙ c.text_between.ensures) c.as_bytes-2.ensures.value,
)
