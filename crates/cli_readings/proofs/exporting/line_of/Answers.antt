use Rattle.std.proofs.Common.{◌≡◌, ◌∙◌, ◌++◌, IfOk, codes, string_bytes}
use Rattle.std.proofs.lemmas.Result.{IfOk-weaker}
use Rattle.cli_readings.proofs.Pieces.{four_pieces}
use Rattle.cli_readings.proofs.exporting.line_of.Goals as goal

pub returns : goal.returns
returns c =
    let sum = c.args.sum.now in
    let name = c.args.name.now in
    let line : IfOk c.format.result (λ t. string_bytes t ≡ sum ++ (codes "  " ++ (name ++ codes "\n"))) = c.format.ensures.ok in
    IfOk-weaker c.format.result _ _ (λ t is. is ∙ four_pieces sum (codes "  ") name (codes "\n")) line
