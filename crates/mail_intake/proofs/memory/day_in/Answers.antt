use Rattle.std.proofs.Common.{◌≡◌, ◌∙◌, subst, sym, ap, arith}
use Rattle.std.specs.Result.{result_ok}
use Rattle.std.specs.Str.{IsUtf8}
use Rattle.std.proofs.lemmas.Str.{IsUtf8-from_ascii}
use Rattle.std.proofs.lemmas.Fmt.{IsAscii-decimal, parse-decimal}
use Rattle.mail_intake.proofs.memory.day_in.Goals as goal

pub returns-in_err-ok : goal.returns-in_err-ok
returns-in_err-ok c = λ n small e.
    let text : IsUtf8 c.args.digits.now = subst IsUtf8 (sym e) (IsUtf8-from_ascii _ (IsAscii-decimal n small)) in absurd (grind (arith, text))

pub returns : goal.returns
returns c =
    let same : c.in_ok-ok.field-0.now ≡ c.args.digits.now = grind arith in
    λ n small e.
    c.ok-2.ensures.value ∙ ap result_ok (parse-decimal 64 n c.in_ok-ok.field-0.now c.parse.result small small (same ∙ e) c.parse.ensures.value.0)
