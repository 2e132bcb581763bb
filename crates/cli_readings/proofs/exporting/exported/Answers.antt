use Rattle.std.proofs.Common.{◌∙◌, ap, sym}
use Rattle.std.specs.Option.{option_copied}
use Rattle.cli_readings.specs.Exporting.{met_fields}
use Rattle.cli_readings.proofs.Exported.{captured_last}
use Rattle.cli_readings.proofs.exporting.exported.Goals as goal

pub returns-in-Some : goal.returns-in-Some
returns-in-Some c = c.kept.ensures ∙ ap (λ o. met_fields c.args.seals.now (option_copied o) c.args.message) (sym c.in-Some.is)

pub returns-in-None : goal.returns-in-None
returns-in-None c =
    captured_last c.length_and_sum.result _ c.length_and_sum.ensures
    ∙ ap (λ o. met_fields c.args.seals.now (option_copied o) c.args.message) (sym c.in-None.is)
