use Rattle.std.proofs.Common.{◌≡◌, ◌∙◌, ◌++◌, IfOk, ap, ap₂, codes, decimal, string_bytes, sym}
use Rattle.std.proofs.lemmas.Result.{IfOk-weaker}
use Rattle.cli_readings.specs.Groups.{key_of}
use Rattle.cli_readings.specs.Twice.{before_group}
use Rattle.cli_readings.proofs.Pieces.{five_pieces, six_pieces}
use Rattle.cli_readings.proofs.twice.text_before.Goals as goal

pub returns-in-Lines : goal.returns-in-Lines
returns-in-Lines c =
    let key = key_of c.args.seal.now in
    let sum = c.sum_text-sum.result.now in
    let text : IfOk c.format.result (λ t. string_bytes t
    ≡ codes "octets " ++ (decimal key.0 ++ (codes " sha256 " ++ (sum ++ codes "\n")))) = c.format.ensures.ok in
    IfOk-weaker c.format.result _ _ (λ t is.
    is ∙ five_pieces (codes "octets ") (decimal key.0) (codes " sha256 ") sum (codes "\n")
    ∙ ap (λ s. codes "octets " ++ decimal key.0 ++ codes " sha256 " ++ s ++ codes "\n") c.sum_text-sum.ensures
    ∙ ap (λ f. before_group f c.args.is_first key) (sym c.in-Lines.is)) text

pub returns-in-Json : goal.returns-in-Json
returns-in-Json c =
    let key = key_of c.args.seal.now in
    let sign = c.text_between-sign.result.now in
    let sum = c.sum_text-sum.result.now in
    let text : IfOk c.format-in-Json.result (λ t. string_bytes t
    ≡ sign ++ (codes "{\"octets\":" ++ (decimal key.0 ++ (codes ",\"sha256\":\"" ++ (sum ++ codes "\",\"records\":["))))) =
    c.format-in-Json.ensures.ok in
    IfOk-weaker c.format-in-Json.result _ _ (λ t is.
    is ∙ six_pieces sign (codes "{\"octets\":") (decimal key.0) (codes ",\"sha256\":\"") sum (codes "\",\"records\":[")
    ∙ ap₂ (λ x s. x ++ codes "{\"octets\":" ++ decimal key.0 ++ codes ",\"sha256\":\"" ++ s ++ codes "\",\"records\":[")
    c.text_between-sign.ensures c.sum_text-sum.ensures ∙ ap (λ f. before_group f c.args.is_first key) (sym c.in-Json.is)) text
