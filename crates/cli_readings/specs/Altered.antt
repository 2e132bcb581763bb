-- Records whose messages are not the ones that were captured, and what is told of them.
use Rattle.std.specs.Prelude.{◌≡◌, ℕ, Bool, true, false, List, [], ◌∷◌, ◌++◌, flat_map, codes, Option, Result, Ok, Err}
use Rattle.choice_words.specs.Ranges.{is_meant_by}
use Rattle.choice_words.specs.declared.numbers.TypedNumbers.{TypedNumbers}
use Rattle.choice_words.specs.declared.numbers.TypedNumbers.TheVariants.{One, Range}
use Rattle.cli_texts.specs.Lines.{record_number}
use Rattle.cli_texts.specs.Words.{words}
use Rattle.cli_console.specs.Numbers.{numbers_typed}
use Rattle.cli_console.specs.declared.failure.Failure.{Failure}
use Rattle.cli_console.specs.declared.failure.Failure.TheVariants.{Reported}
use Rattle.cli_console.specs.declared.failure.Status.TheVariants.{BadData}
use Rattle.cli_readings.specs.declared.altered.Altered.{Altered}

-- THE RECORD OF A NUMBER IS ONE OF THEM
abbrev pub is_noted : Altered → ℕ → Bool
is_noted x n = is_meant_by x.numbers.items n

-- what was done without them ends well only where there is none, and else with a report as bad data
abbrev pub IsEnd : (is_none : Bool) → Result (Unit {0}) Failure → Type 0
IsEnd true (Ok done) = Unit {0}
IsEnd true (Err failure) = ⊥
IsEnd false (Ok done) = ⊥
IsEnd false (Err failure) = failure ≡ Reported BadData

-- what is told of one
unfoldable pub one_words : (volume : Option ℕ) → ℕ → List ℕ
one_words volume n = words (codes "record ") ++ record_number volume n ++ words (codes ": its message is not the one that was captured")

-- one number, or a range, as it is typed, after a blank
abbrev pub typed_in : (volume : Option ℕ) → TypedNumbers → List ℕ
typed_in volume numbers = words (codes " ") ++ numbers_typed volume numbers

-- what is told of several, by their numbers as they are typed
unfoldable pub several_words : (volume : Option ℕ) → List TypedNumbers → List ℕ
several_words volume ts =
    words (codes "records") ++ flat_map (typed_in volume) ts ++ words (codes ": the message of each is not the one that was captured")

-- WHAT IS TOLD of the records of these numbers, of a volume in an archive of volumes
abbrev pub altered_words : (volume : Option ℕ) → List TypedNumbers → List ℕ
altered_words volume [] = several_words volume []
altered_words volume (One n ∷ []) = one_words volume n
altered_words volume (One n ∷ t ∷ ts) = several_words volume (One n ∷ t ∷ ts)
altered_words volume (Range first last ∷ ts) = several_words volume (Range first last ∷ ts)
