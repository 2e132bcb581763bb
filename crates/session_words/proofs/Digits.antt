-- Digits, as `parse` reads them.
use Rattle.std.proofs.Common.{◌≡◌, ℕ, ◌<◌, ◌≤◌, ◌^◌, List, true, false, Some, None, Result, Ok, Err, length, ap, sym, ◌∙◌, inl, inr, arith, rules}
use Rattle.std.specs.Result.{result_ok, OkIff}
use Rattle.std.specs.Char.{is_ascii_digit}
use Rattle.std.specs.List.{list_all}
use Rattle.std.specs.Str.{IsUtf8}
use Rattle.std.proofs.lemmas.Str.{IsUtf8-from_ascii}
use Rattle.std.specs.Str.Parse.{ParsesUnsigned, digits_value}
use Rattle.std.proofs.lemmas.Fmt.{IsAscii-from_digits}
use Rattle.std.proofs.lemmas.Bool.{cases_lt}
use Rattle.std.proofs.lemmas.Bool.Decides.{nat_tests}
use Rattle.std.proofs.lemmas.Str.Parse.{IsDigitsTest, IsNumeralModel, numerals_by_value, parse_digits}
use Rattle.std.specs.Prelude.{if◌then◌else◌, nat_le}
use Rattle.session_words.specs.Words.{are_digits, digits_up_to, greatest_number}

is_test : IsDigitsTest (λ ds. list_all is_ascii_digit ds ≡ true)
is_test = search rules

own : IsNumeralModel (λ ds. list_all is_ascii_digit ds ≡ true) (digits_value 10)
own = numerals_by_value _ is_test

all_digits : (word : List ℕ) → are_digits word ≡ true → list_all is_ascii_digit word ≡ true
all_digits word h = grind (arith, nat_tests)

nonempty : (word : List ℕ) → are_digits word ≡ true → 0 < length word
nonempty word d = grind (arith, nat_tests)

pub digits_text : (word : List ℕ) → are_digits word ≡ true → IsUtf8 word
digits_text word d = IsUtf8-from_ascii word (IsAscii-from_digits word (own.to word (all_digits word d)))

abbrev Reads : {E : Type 0} → (word : List ℕ) → Result ℕ E → Type 0
Reads word r = OkIff r ((0 < length word) × (digits_value 10 word < 2 ^ 64)) (digits_value 10 word)

short : (word : List ℕ) → are_digits word ≡ true → digits_value 10 word < 2 ^ 64 → digits_up_to greatest_number word ≡ Some (digits_value 10 word)
unfolding digits_up_to
short word d h = grind (arith, nat_tests)

long : (word : List ℕ) → 2 ^ 64 ≤ digits_value 10 word → digits_up_to greatest_number word ≡ None
unfolding digits_up_to
long word h = grind (arith, nat_tests)

read : {E : Type 0} (word : List ℕ) (r : Result ℕ E) → are_digits word ≡ true → Reads word r → result_ok r ≡ digits_up_to greatest_number word
read word (Ok n) d h = ap Some h.1 ∙ sym (short word d h.0.1)
read word (Err e) d h =
    elim (cases_lt (digits_value 10 word) (2 ^ 64)) [ inl l ↦ absurd (h (nonempty word d, l)) | inr l ↦ sym (long word l) ]

-- what 64 bits read is the number of the digits
pub digits_read : {E : Type 0} (word : List ℕ) (r : Result ℕ E) → are_digits word ≡ true → ParsesUnsigned 64 10 word r
    → result_ok r ≡ digits_up_to greatest_number word
digits_read word r d p = read word r d (parse_digits own 64 word r p (all_digits word d))

pub digits_up_to-none : (greatest : ℕ) (word : List ℕ) → are_digits word ≡ false → None ≡ digits_up_to greatest word
unfolding digits_up_to
digits_up_to-none greatest word h = grind (arith, nat_tests)

-- by a smaller greatest number
pub none_lower : (greatest : ℕ) (word : List ℕ) → greatest ≤ greatest_number → None ≡ digits_up_to greatest_number word
    → None ≡ digits_up_to greatest word
unfolding digits_up_to
none_lower greatest word h e = grind (arith, nat_tests)

pub some_lower : (greatest : ℕ) (word : List ℕ) (n : ℕ) → greatest ≤ greatest_number
    → Some n ≡ digits_up_to greatest_number word → (if nat_le n greatest then Some n else None) ≡ digits_up_to greatest word
unfolding digits_up_to
some_lower greatest word n h e = grind (arith, nat_tests)
