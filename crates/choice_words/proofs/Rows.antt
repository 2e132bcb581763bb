-- The definitions on worked rows.
use Rattle.std.proofs.Common.{◌≡◌, ℕ, List, [], ◌∷◌, map, codes, Option, Some, None, Bool, true, false, refl}
use Rattle.session_words.specs.Words.{digits_up_to, number_up_to}
use Rattle.choice_words.specs.declared.numbers.TypedNumbers.{TypedNumbers}
use Rattle.choice_words.specs.declared.numbers.TypedNumbers.TheVariants.{One, Range}
use Rattle.choice_words.specs.Numbers.{numbers_typed, reversed_typed}
use Rattle.choice_words.specs.Readings.{reads_as_any_numbers, reads_as_numbers}

-- each word, and the numbers that it is
abbrev rows : List (List ℕ × Option TypedNumbers)
rows =
    (codes "3", Some (One 3)) ∷
    (codes "4294967295", Some (One 4294967295)) ∷
    (codes "5-9", Some (Range 5 9)) ∷
    (codes "7-7", Some (Range 7 7)) ∷
    (codes "9-5", None) ∷
    (codes "0", None) ∷
    (codes "0-5", None) ∷
    (codes "05", None) ∷
    (codes "+5", None) ∷
    (codes "-5", None) ∷
    (codes "5-", None) ∷
    (codes "1-2-3", None) ∷
    (codes "4294967296", None) ∷
    (codes "", None) ∷
    (codes "2024-03", None) ∷
    (codes "audit", None) ∷
    []

numbers_are : map (λ r. numbers_typed r.0) rows ≡ map (λ r. r.1) rows
unfolding digits_up_to number_up_to
numbers_are = refl

-- each word, and the range that it is backwards
abbrev reversed_rows : List (List ℕ × Option TypedNumbers)
reversed_rows =
    (codes "9-5", Some (Range 5 9)) ∷
    (codes "7-7", Some (Range 7 7)) ∷
    (codes "5-9", None) ∷
    (codes "5-0", None) ∷
    (codes "9", None) ∷
    (codes "-5", None) ∷
    (codes "9-5-1", None) ∷
    (codes "b-a", None) ∷
    []

reversed_are : map (λ r. reversed_typed r.0) reversed_rows ≡ map (λ r. r.1) reversed_rows
unfolding digits_up_to number_up_to
reversed_are = refl

-- each word, and whether it reads as numbers without a volume
abbrev reading_rows : List (List ℕ × Bool)
reading_rows =
    (codes "3", true) ∷
    (codes "5-9", true) ∷
    (codes "9-5", true) ∷
    (codes "1,3", true) ∷
    (codes "1,9-5,", true) ∷
    (codes "./3", false) ∷
    (codes "3/17", false) ∷
    (codes "1,3/17", false) ∷
    (codes "1,audit", false) ∷
    (codes "1,03", false) ∷
    (codes "2024-03", false) ∷
    (codes ",", false) ∷
    (codes "", false) ∷
    []

reading_is : map (λ r. reads_as_numbers r.0) reading_rows ≡ map (λ r. r.1) reading_rows
unfolding digits_up_to number_up_to
reading_is = refl

-- each word, and whether it reads as numbers with a volume or without
abbrev any_reading_rows : List (List ℕ × Bool)
any_reading_rows =
    (codes "3", true) ∷
    (codes "9-5", true) ∷
    (codes "3/17", true) ∷
    (codes "3/5-9", true) ∷
    (codes "3/9-5", true) ∷
    (codes "3/", true) ∷
    (codes "3/,4/1", true) ∷
    (codes "1,3/17,", true) ∷
    (codes "./3", false) ∷
    (codes "3/audit", false) ∷
    (codes "2024/03", false) ∷
    (codes "audit/3", false) ∷
    (codes "3/4/5", false) ∷
    (codes "10000/1", false) ∷
    (codes ",", false) ∷
    (codes "", false) ∷
    []

any_reading_is : map (λ r. reads_as_any_numbers r.0) any_reading_rows ≡ map (λ r. r.1) any_reading_rows
unfolding digits_up_to number_up_to
any_reading_is = refl
