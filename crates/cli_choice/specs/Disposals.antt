-- Which records a disposal is about.
use Rattle.std.specs.Prelude.{◌≡◌, ◌<◌, ℕ, nat_le, Bool, false, ◌&&◌, List, [], ◌++◌, map, filter, length}
use Rattle.std.specs.List.{list_any}
use Rattle.choice_words.specs.declared.numbers.TypedNumbers.{TypedNumbers}
use Rattle.choice_words.specs.declared.numbers.TypedNumbers.TheVariants.{One, Range}
use Rattle.record_archive.specs.Archive.{Line}
use Rattle.cli_choice.specs.declared.disposals.Meant.{Meant}
use Rattle.cli_choice.specs.declared.disposals.Meant.TheVariants.{All, Nothing, Numbers}
use Rattle.cli_choice.specs.Typed.{singles}

abbrev pub in_range : ℕ → TypedNumbers → Bool
in_range n (One m) = false
in_range n (Range first last) = nat_le first n && nat_le n last

-- a number is in one of the ranges that are typed
abbrev pub is_ranged : List TypedNumbers → ℕ → Bool
is_ranged typed n = list_any (in_range n) typed

-- the numbers of the lines that are in the ranges
abbrev pub ranged_numbers : List TypedNumbers → List Line → List ℕ
ranged_numbers typed lines = filter (is_ranged typed) (map (λ (l : Line). l.number) lines)

-- those that are typed by themselves, and those in the ranges
abbrev pub numbers_meant : List TypedNumbers → List Line → List ℕ
numbers_meant typed lines = singles typed ++ ranged_numbers typed lines

-- ALL THAT MAY BE DESTROYED is meant where no number is typed, and only there
abbrev pub IsMeant : List TypedNumbers → List Line → Meant → Type 0
IsMeant typed lines All = typed ≡ []
IsMeant typed lines Nothing = (0 < length typed) × (numbers_meant typed lines ≡ [])
IsMeant typed lines (Numbers numbers) = (0 < length numbers.items) × (numbers.items ≡ numbers_meant typed lines)
