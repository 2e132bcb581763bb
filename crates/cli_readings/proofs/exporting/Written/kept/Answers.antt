use Rattle.std.proofs.Common.{Some, ◌∷◌, ap₂, decimal}
use Rattle.cli_texts.specs.Rows.{header_fields}
use Rattle.cli_readings.proofs.exporting.Written.kept.Goals as goal

pub returns : goal.returns
returns c =
    let told = c.args.self.now in
    ap₂ (λ f s. f ∷ decimal told.octets ∷ s ∷ header_fields (Some told.headers)) c.as_str.ensures.value c.as_str-2.ensures.value
