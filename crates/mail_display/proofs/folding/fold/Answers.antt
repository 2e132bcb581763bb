use Rattle.std.proofs.Common.{◌≡◌, sym, map, string_bytes, ◌∙◌}
use Rattle.std.proofs.lemmas.Result.{IfOk-weaker}
use Rattle.std.specs.Char.{to_ascii_lowercase}
use Rattle.mail_display.specs.Folding.{folded}
use Rattle.mail_display.proofs.FoldingLemmas.{folded-ascii}
use Rattle.mail_display.proofs.folding.fold.Goals as goal

pub returns-then-is_ascii : goal.returns-then-is_ascii
returns-then-is_ascii c =
    let text = c.args.text.now in
    IfOk-weaker c.to_ascii_lowercase.result (λ t. string_bytes t ≡ map to_ascii_lowercase text) (λ t. string_bytes t ≡ folded text)
    (λ t h. h ∙ sym (folded-ascii text c.if-is_ascii.ensures.cases)) c.to_ascii_lowercase.ensures.ok
