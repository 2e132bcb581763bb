use Rattle.std.proofs.Common.{◌≡◌, ℕ, List, Result, Ok, Err, codes, string_bytes, sym, ◌∙◌, append_assoc}
use Rattle.std.specs.Fmt.{decimal}
use Rattle.std.specs.Prelude.{IfOk}
use Rattle.mail_import.proofs.import.boxed_name.Goals as goal

same_text : {S E : Type 0} (text : S → List ℕ) (r : Result S E) (xs ys : List ℕ) → xs ≡ ys → IfOk r (λ s. text s ≡ xs)
    → IfOk r (λ s. text s ≡ ys)
same_text text (Ok s) xs ys same h = h ∙ same
same_text text (Err e) xs ys same h = tt

pub returns : goal.returns
returns c =
    same_text string_bytes c.format.result _ _ (sym (append_assoc c.args.path.now (codes ":") (decimal c.args.number))) c.format.ensures.ok
