-- Keys of a map by seals.
use Rattle.std.proofs.Common.{◌≡◌, ◌==◌, ◌&&◌, ℕ, Bool, true, false, cond, if◌then◌else◌, Option, Some, None, refl, ap, ◌∙◌, arith}
use Rattle.std.proofs.Common.{Ordering, Less, Equal, Greater, is_eq}
use Rattle.std.proofs.lemmas.Bool.Decides.{nat_tests}
use Rattle.std.proofs.lemmas.Map.Text.{is_eq-slice_cmp}
use Rattle.std.specs.Ordering.{nat_cmp, ordering_then}
use Rattle.std.specs.Cmp.Lexicographic.{slice_cmp}
use Rattle.std.specs.BTreeMap.{get}
use Rattle.std.specs.Str.{bytes_eq}
use Rattle.record_known.specs.Known.{Key, key_cmp, is_key, later}

both_equal : (a b : Ordering) → is_eq (ordering_then a b) ≡ (is_eq a && is_eq b)
both_equal Less b = refl
both_equal Equal b = refl
both_equal Greater b = refl

equal_numbers : (a b : ℕ) → is_eq (nat_cmp a b) ≡ (a == b)
equal_numbers a b = grind (arith, nat_tests)

pub key_is : (k q : Key) → is_eq (key_cmp k q) ≡ is_key k q
key_is k q =
    both_equal (slice_cmp nat_cmp k.0.items q.0.items) (nat_cmp k.1 q.1)
    ∙ ap (λ b. b && is_eq (nat_cmp k.1 q.1)) (is_eq-slice_cmp k.0.items q.0.items)
    ∙ ap (λ b. bytes_eq k.0.items q.0.items && b) (equal_numbers k.1 q.1)

-- what is known of a seal after a capture
pub kept_or_new : (b : Bool) (n : ℕ) (before : Option ℕ) → cond b (Some n) before ≡ later (cond b (Some n) None) before
kept_or_new true n before = refl
kept_or_new false n before = refl
