-- What a disposal passes over, and why.
use Rattle.std.specs.Prelude.{◌≡◌, ℕ, ℤ, ◌==◌, ◌||◌, Bool, true, false, List, [], ◌∷◌, ◌++◌, flat_map, codes, Option, Some, Err}
use Rattle.choice_words.specs.Ranges.{is_meant_by}
use Rattle.choice_words.specs.declared.numbers.TypedNumbers.{TypedNumbers}
use Rattle.choice_words.specs.declared.numbers.TypedNumbers.TheVariants.{One, Range}
use Rattle.record_archive.specs.Archive.{Archive, destroy_on}
use Rattle.record_archive.specs.declared.fault.ArchiveRefusal.{ArchiveRefusal}
use Rattle.record_archive.specs.declared.fault.ArchiveRefusal.TheVariants as refusal
use Rattle.record_choice.specs.Choices.{Span}
use Rattle.cli_texts.specs.Words.{words}
use Rattle.cli_console.specs.Numbers.{numbers_typed}
use Rattle.cli_changes.specs.declared.passed_over.Cause.{Cause}
use Rattle.cli_changes.specs.declared.passed_over.Cause.TheVariants as cause

abbrev pub refusal_of : Cause → ArchiveRefusal
refusal_of cause.Held = refusal.Held
refusal_of cause.NotForDestruction = refusal.NotForDestruction
refusal_of cause.NotDue = refusal.NotDue

-- THE CAUSE THAT IS TOLD is that for which the archive refuses to destroy the record by the day
abbrev pub IsCause : Archive → (day : ℤ) → (number : ℕ) → Cause → Type 0
IsCause a day n why = destroy_on a n day ≡ Err (refusal_of why)

-- a record is passed over for this cause
abbrev pub is_for : Cause → Option Cause → Bool
is_for cause.Held (Some cause.Held) = true
is_for cause.NotForDestruction (Some cause.NotForDestruction) = true
is_for cause.NotDue (Some cause.NotDue) = true
is_for why why_passed = false

-- THE SAME NUMBERS ARE MEANT, and this one too where it is so
abbrev pub IsWith : (is_so : Bool) → (number : ℕ) → (old new : List TypedNumbers) → Type 0
IsWith true number old new = (n : ℕ) → is_meant_by new n ≡ (is_meant_by old n || (n == number))
IsWith false number old new = new ≡ old

abbrev pub range_span : TypedNumbers → List Span
range_span (One n) = []
range_span (Range first last) = record { first = first; last = last } ∷ []

-- THE RANGES that are typed, in their order
abbrev pub range_spans : List TypedNumbers → List Span
range_spans typed = flat_map range_span typed

-- ---- as it is told

-- numbers, of a volume if they have one, after a blank
abbrev pub numbers_after : (volume : Option ℕ) → TypedNumbers → List ℕ
numbers_after volume numbers = words (codes " ") ++ numbers_typed volume numbers

-- WHICH RECORDS ARE PASSED OVER, and why
unfoldable pub passed_words : (volume : Option ℕ) → (why : List ℕ) → List TypedNumbers → List ℕ
passed_words volume why numbers =
    words (codes "passed over, ") ++ words why ++ words (codes ":") ++ flat_map (numbers_after volume) numbers
