-- What `from_utf8` answers.
use Rattle.std.proofs.Common.{◌≡◌, ℕ, List, Bool, true, false, refl, sym, Result, Ok, Err}
use Rattle.std.proofs.lemmas.Str.{IsUtf8-from_is_utf8, is_utf8-from_IsUtf8}
use Rattle.std.specs.Result.{MatchResult, is_ok}
use Rattle.std.specs.Str.{IsUtf8, is_utf8}

not_utf8 : (bs : List ℕ) (t : Bool) → is_utf8 bs ≡ t → (IsUtf8 bs → ⊥) → false ≡ is_utf8 bs
not_utf8 bs true e h = absurd (h (IsUtf8-from_is_utf8 bs e))
not_utf8 bs false e h = sym e

-- it succeeds where the octets are well-formed
pub utf8_test : {T E : Type 0} (bs : List ℕ) (P : T → Type 0) (Q : E → Type 0) (r : Result T E)
    → MatchResult r (λ s. P s × IsUtf8 bs) (λ e. (IsUtf8 bs → ⊥) × Q e) → is_ok r ≡ is_utf8 bs
utf8_test bs P Q (Ok s) h = sym (is_utf8-from_IsUtf8 bs h.1)
utf8_test bs P Q (Err e) h = not_utf8 bs (is_utf8 bs) refl h.0
