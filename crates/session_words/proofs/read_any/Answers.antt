use Rattle.std.proofs.Common.{◌≡◌, ◌∙◌, ℕ, List, subst, arith}
use Rattle.std.specs.Str.Parse.{ParsesUnsigned}
use Rattle.session_words.proofs.Digits.{digits_text, digits_read}
use Rattle.session_words.proofs.read_any.Goals as goal

pub returns-in_err-ok : goal.returns-in_err-ok
returns-in_err-ok c = let text = digits_text c.args.digits.now c.requires in absurd (grind (arith, text))

pub returns : goal.returns
returns c =
    let same : c.in_ok-ok.field-0.now ≡ c.args.digits.now = grind arith in
    let Reads : List ℕ → Type 0 = λ t. ParsesUnsigned 64 10 t c.parse.result in
    c.ok-2.ensures.value ∙ digits_read c.args.digits.now _ c.requires (subst Reads same c.parse.ensures.value.0)
