use Rattle.std.proofs.Common.{◌≡◌, ◌∙◌, ◌++◌, IfOk, ap, codes, decimal, string_bytes, sym}
use Rattle.std.proofs.lemmas.Result.{IfOk-weaker}
use Rattle.cli_readings.specs.Groups.{key_of}
use Rattle.cli_readings.specs.Twice.{beside_record}
use Rattle.cli_readings.proofs.Pieces.{four_pieces}
use Rattle.cli_readings.proofs.twice.text_beside.Goals as goal

pub returns-in-Csv : goal.returns-in-Csv
returns-in-Csv c =
    let key = key_of c.args.seal.now in
    let sum = c.sum_text-sum.result.now in
    let text : IfOk c.format.result (λ t. string_bytes t ≡ decimal key.0 ++ (codes "," ++ (sum ++ codes ","))) = c.format.ensures.ok in
    IfOk-weaker c.format.result _ _ (λ t is.
    is ∙ four_pieces (decimal key.0) (codes ",") sum (codes ",") ∙ ap (λ s. decimal key.0 ++ codes "," ++ s ++ codes ",") c.sum_text-sum.ensures
    ∙ ap (λ f. beside_record f key) (sym c.in-Csv.is)) text
