-- Words that read as numbers of records.
use Rattle.std.specs.Prelude.{ℕ, ◌==◌, ◌&&◌, ◌||◌, Bool, false, true, List, length}
use Rattle.std.specs.List.{slice_split, list_any, list_all}
use Rattle.choice_words.specs.Numbers.{is_numbers}
use Rattle.choice_words.specs.Volumes.{is_numbers_of_volume}

abbrev pub is_comma : ℕ → Bool
is_comma o = o == 44

-- numbers of records; those of a volume only where these count too
abbrev pub is_counted : (with_volumes : Bool) → List ℕ → Bool
is_counted with_volumes word = is_numbers word || (with_volumes && is_numbers_of_volume word)

-- nothing, or such numbers
abbrev pub is_counted_or_empty : (with_volumes : Bool) → List ℕ → Bool
is_counted_or_empty with_volumes word = (length word == 0) || is_counted with_volumes word

-- A WORD READS AS NUMBERS: such parts alone, and at least one, with commas between or after them
abbrev pub reads_as : (with_volumes : Bool) → List ℕ → Bool
reads_as with_volumes word = list_any (is_counted with_volumes) (slice_split is_comma word)
    && list_all (is_counted_or_empty with_volumes) (slice_split is_comma word)

-- without a volume
abbrev pub reads_as_numbers : List ℕ → Bool
reads_as_numbers word = reads_as false word

-- with a volume or without
abbrev pub reads_as_any_numbers : List ℕ → Bool
reads_as_any_numbers word = reads_as true word
