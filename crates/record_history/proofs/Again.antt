-- What was written is read again: words and numbers.
use Rattle.std.proofs.Common.{◌≡◌, ℕ, ◌+◌, ◌<◌, ◌≤◌, ◌==◌, ◌^◌, Bool, true, false, not, List, [], ◌∷◌, ◌++◌, take, drop, length, get_or, Some, codes}
use Rattle.std.proofs.Common.{refl, ap, ◌∙◌, arith, rules, inl, inr, zero, suc}
use Rattle.std.specs.Prelude.{nat_le}
use Rattle.std.proofs.lemmas.Bool.{cases_Bool}
use Rattle.std.proofs.lemmas.Bool.Decides.{nat_tests}
use Rattle.std.proofs.lemmas.List.{take_at, drop_at, length-append}
use Rattle.std.proofs.lemmas.Slice.Eq.{bytes_eq-Decides}
use Rattle.std.proofs.lemmas.Fmt.{decimal_digit, first_decimal, decimal_nonempty, digits_decimal, digits_value-decimal}
use Rattle.std.proofs.lemmas.Str.Parse.{IsDigitsTest, IsNumeralModel, numerals_by_value}
use Rattle.std.specs.Char.{is_ascii_digit}
use Rattle.std.specs.Fmt.{decimal}
use Rattle.std.specs.List.{list_all, position_or_len}
use Rattle.std.specs.Str.{bytes_eq}
use Rattle.std.specs.Str.Parse.{digits_value}
use Rattle.session_words.specs.Words.{are_digits, digits_up_to, has_leading_zero, number_up_to}
use Rattle.record_history.specs.Reading.{counted_at, cut, from, longest_counted, number_at, stripped, until}

-- ---- words

abbrev pub HasNone : ℕ → List ℕ → Type 0
HasNone c w = list_all (λ o. not (o == c)) w ≡ true

-- nothing follows, or c
abbrev pub IsAfter : ℕ → List ℕ → Type 0
IsAfter c [] = Unit {0}
IsAfter c (x ∷ xs) = (x == c) ≡ true

place : (c : ℕ) (w t : List ℕ) → HasNone c w → IsAfter c t → position_or_len (λ o. o == c) (w ++ t) ≡ length w
place c [] [] h e = refl
place c [] (x ∷ xs) h e = rw e refl
place c (x ∷ xs) t h e = elim (cases_Bool (not (x == c))) [
  | inl is ↦ rw is (ap (λ n. 1 + n) (place c xs t (rw is at h) e) ∙ omega arith)
  | inr other ↦ let k : false ≡ true = rw other at h in absurd (cc)
]

pub until_word : (c : ℕ) (w t : List ℕ) → HasNone c w → IsAfter c t → until c (w ++ t) ≡ w
unfolding until
until_word c w t h e = ap (λ n. take n (w ++ t)) (place c w t h e) ∙ take_at w t (length w) refl

pub from_word : (c : ℕ) (w t : List ℕ) → HasNone c w → IsAfter c t → from c (w ++ t) ≡ t
unfolding from
from_word c w t h e = ap (λ n. drop n (w ++ t)) (place c w t h e) ∙ drop_at w t (length w) refl

pub stripped_again : (p t : List ℕ) → stripped p (p ++ t) ≡ Some t
unfolding stripped
stripped_again p t =
    let test : bytes_eq (take (length p) (p ++ t)) p ≡ true = ap (λ x. bytes_eq x p) (take_at p t (length p) refl) ∙ (bytes_eq-Decides p p).1 refl in
    rw test (ap Some (drop_at p t (length p) refl))

pub none_in : (p : ℕ → Bool) (c : ℕ) → ((o : ℕ) → p o ≡ true → not (o == c) ≡ true) → (w : List ℕ) → list_all p w ≡ true → HasNone c w
none_in p c other [] h = refl
none_in p c other (x ∷ xs) h = elim (cases_Bool (p x)) [
  | inl is ↦ rw (other x is) (none_in p c other xs (rw is at h))
  | inr other_one ↦ let k : false ≡ true = rw other_one at h in absurd (cc)
]

-- ---- numbers

is_test : IsDigitsTest (λ ds. list_all is_ascii_digit ds ≡ true)
is_test = search rules

own : IsNumeralModel (λ ds. list_all is_ascii_digit ds ≡ true) (digits_value 10)
own = numerals_by_value _ is_test

pub digits_of : (n : ℕ) → n < 2 ^ 64 → list_all is_ascii_digit (decimal n) ≡ true
digits_of n h = digits_decimal own n h

digit_other : (c o : ℕ) → c < 48 → is_ascii_digit o ≡ true → not (o == c) ≡ true
digit_other c o low h = grind (arith, nat_tests)

pub none_in_number : (c n : ℕ) → c < 48 → n < 2 ^ 64 → HasNone c (decimal n)
none_in_number c n low h = none_in is_ascii_digit c (λ o. digit_other c o low) (decimal n) (digits_of n h)

digit_no_colon : (o : ℕ) → is_ascii_digit o ≡ true → not (o == 58) ≡ true
digit_no_colon o h = grind (arith, nat_tests)

no_colon_in_number : (n : ℕ) → n < 2 ^ 64 → HasNone 58 (decimal n)
no_colon_in_number n h = none_in is_ascii_digit 58 digit_no_colon (decimal n) (digits_of n h)

no_zero : (w : List ℕ) → 48 < get_or w 0 0 → has_leading_zero w ≡ false
no_zero w h = grind (arith, nat_tests)

no_leading : (n : ℕ) → n < 2 ^ 64 → has_leading_zero (decimal n) ≡ false
no_leading zero h = ap has_leading_zero (decimal_digit 0 (omega arith))
no_leading (suc k) h = no_zero (decimal (suc k)) (first_decimal (suc k) (omega arith) h)

some_digits : (w : List ℕ) → 0 < length w → list_all is_ascii_digit w ≡ true → are_digits w ≡ true
some_digits w some all = grind (arith, nat_tests)

fits : (n greatest : ℕ) → n ≤ greatest → nat_le n greatest ≡ true
fits n greatest h = grind (arith, nat_tests)

pub number_word : (greatest n : ℕ) → n ≤ greatest → n < 2 ^ 64 → number_up_to greatest (decimal n) ≡ Some n
unfolding number_up_to digits_up_to
number_word greatest n small h =
    let digits = some_digits (decimal n) (decimal_nonempty n h) (digits_of n h) in
    let value = digits_value-decimal own n h in
    rw (no_leading n h, digits, value, fits n greatest small) refl

pub number_again : (greatest n : ℕ) (t : List ℕ) → n ≤ greatest → n < 2 ^ 64 → IsAfter 32 t → number_at greatest (decimal n ++ t) ≡ Some (n, t)
unfolding number_at
number_again greatest n t small h e =
    let plain = none_in_number 32 n (omega arith) h in
    rw (until_word 32 (decimal n) t plain e, from_word 32 (decimal n) t plain e, number_word greatest n small h) refl

-- ---- counted texts

no_more : (n m : ℕ) → nat_le n (n + m) ≡ true
no_more n m = grind (arith, nat_tests)

cut_again : (w t : List ℕ) → cut (length w) (w ++ t) ≡ Some (w, t)
cut_again w t =
    let fits : nat_le (length w) (length (w ++ t)) ≡ true = ap (nat_le (length w)) (length-append w t) ∙ no_more (length w) (length t) in
    rw (fits, take_at w t (length w) refl, drop_at w t (length w) refl) refl

pub counted_again : (w t : List ℕ) → length w ≤ 500 → counted_at (decimal (length w) ++ (codes ":" ++ (w ++ t))) ≡ Some (w, t)
unfolding counted_at
counted_again w t small =
    let below : length w < 2 ^ 64 = omega (arith, small) in
    let plain = no_colon_in_number (length w) below in
    rw (
      until_word 58 (decimal (length w)) (codes ":" ++ (w ++ t)) plain refl,
      from_word 58 (decimal (length w)) (codes ":" ++ (w ++ t)) plain refl,
      number_word longest_counted (length w) small below,
      stripped_again (codes ":") (w ++ t),
    ) (cut_again w t)
