-- Decimal digits.
use Rattle.std.proofs.Common.{◌≡◌, ℕ, suc, ◌+◌, ◌-◌, ◌*◌, ◌<◌, ◌≤◌, Bool, true, nat_le, List, [], ◌∷◌, length, take}
use Rattle.std.proofs.Common.{get_or, refl, sym, ap, ◌∙◌, arith, inl, inr}
use Rattle.std.specs.List.{prefix_len}
use Rattle.std.specs.Char.{is_ascii_digit, digit_value}
use Rattle.std.specs.Str.Parse.{digits_value}
use Rattle.std.proofs.lemmas.Bool.{cases_Bool, lt-ltb, le-ltb, leb-true, and_parts}
use Rattle.std.proofs.lemmas.Int.Digits.{digits_value_more}
use Rattle.std.proofs.lemmas.Str.Parse.{digits_value-take-le}
use Rattle.std.proofs.lemmas.List.Sums.{prefix_len_passes}
use Rattle.std.proofs.lemmas.List.Folds.{length-prefix_len}

-- the longest front that passes a test passes it whole
pub prefix_taken : (p : ℕ → Bool) (xs : List ℕ) → prefix_len p (take (prefix_len p xs) xs) ≡ prefix_len p xs
prefix_taken p [] = refl
prefix_taken p (x ∷ xs) = elim (cases_Bool (p x)) [
  | inl h ↦ (let e : 1 + prefix_len p xs ≡ suc (prefix_len p xs) = omega arith in rw (h, e, h) (ap (λ n. 1 + n) (prefix_taken p xs) ∙ e))
  | inr h ↦ rw h refl
]

pub all_digits : (xs : List ℕ) → prefix_len is_ascii_digit (take (prefix_len is_ascii_digit xs) xs) ≡ length (take (prefix_len is_ascii_digit xs) xs)
all_digits xs = prefix_taken is_ascii_digit xs ∙ sym (length-prefix_len is_ascii_digit xs)

pub digit_bounds : (c : ℕ) → is_ascii_digit c ≡ true → (48 ≤ c) × (c ≤ 57)
digit_bounds c h = let p = and_parts (nat_le 48 c) (nat_le c 57) h in (leb-true 48 c p.0, leb-true c 57 p.1)

pub digit_at : (ds : List ℕ) (i : ℕ) → prefix_len is_ascii_digit ds ≡ length ds → i < length ds → (48 ≤ get_or ds i 0) × (get_or ds i 0 ≤ 57)
digit_at ds i all h = digit_bounds (get_or ds i 0) (prefix_len_passes is_ascii_digit ds i 0 (omega arith))

value_of_digit : (c : ℕ) → 48 ≤ c → c ≤ 57 → digit_value c ≡ c - 48
value_of_digit c low high = rw (le-ltb c 48 low, lt-ltb c 58 (omega arith)) refl

pub one_more : (ds : List ℕ) (i : ℕ) → prefix_len is_ascii_digit ds ≡ length ds → i < length ds
    → digits_value 10 (take (i + 1) ds) ≡ digits_value 10 (take i ds) * 10 + (get_or ds i 0 - 48)
one_more ds i all h = let r = digit_at ds i all h in digits_value_more 10 ds i h
    ∙ ap (λ n. digits_value 10 (take i ds) * 10 + n) (value_of_digit (get_or ds i 0) r.0 r.1)

pub no_less : (ds : List ℕ) (i : ℕ) → digits_value 10 (take i ds) ≤ digits_value 10 ds
no_less ds i = digits_value-take-le 10 ds i (omega arith)
