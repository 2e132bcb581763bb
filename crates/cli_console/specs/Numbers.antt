-- Numbers of records, as they are typed.
use Rattle.std.specs.Prelude.{List, ℕ, ◌++◌, Option, None, Some, codes, if◌then◌else◌}
use Rattle.choice_words.specs.Numbers.{is_all}
use Rattle.choice_words.specs.declared.numbers.TypedNumbers.{TypedNumbers}
use Rattle.choice_words.specs.declared.numbers.TypedNumbers.TheVariants.{One, Range}
use Rattle.cli_texts.specs.Lines.{record_number}
use Rattle.cli_texts.specs.Words.{number, words}

-- the numbers from one to another, as `3-7`; of a volume as `2/3-7`
abbrev pub from_to : (volume : Option ℕ) → (first last : ℕ) → List ℕ
from_to volume first last = record_number volume first ++ words (codes "-") ++ number last

-- the same, and all numbers of a volume as `2/`
abbrev pub range_in : (volume : Option ℕ) → (first last : ℕ) → List ℕ
range_in None first last = from_to None first last
range_in (Some v) first last =
    if is_all (Range first last) then number v ++ words (codes "/") else from_to (Some v) first last

-- ONE NUMBER, OR A RANGE
abbrev pub numbers_typed : (volume : Option ℕ) → TypedNumbers → List ℕ
numbers_typed volume (One n) = record_number volume n
numbers_typed volume (Range first last) = range_in volume first last

-- the same in one store, after a blank
abbrev pub typed_words : TypedNumbers → List ℕ
typed_words numbers = words (codes " ") ++ numbers_typed None numbers
