-- The numbers that words stand for.
use Rattle.std.specs.Prelude.{ℕ, ◌==◌, ◌&&◌, nat_le, Bool, List}
use Rattle.std.specs.List.{list_any}
use Rattle.choice_words.specs.declared.numbers.TypedNumbers.{TypedNumbers}
use Rattle.choice_words.specs.declared.numbers.TypedNumbers.TheVariants.{One, Range}

abbrev pub is_number_of : ℕ → TypedNumbers → Bool
is_number_of n (One m) = n == m
is_number_of n (Range first last) = nat_le first n && nat_le n last

-- A NUMBER IS MEANT by some words
abbrev pub is_meant_by : List TypedNumbers → ℕ → Bool
is_meant_by words n = list_any (is_number_of n) words
