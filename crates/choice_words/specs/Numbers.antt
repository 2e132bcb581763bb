-- The words that are numbers of records.
use Rattle.std.specs.Prelude.{ℕ, ◌+◌, ◌==◌, ◌&&◌, ◌||◌, nat_le, Bool, false, if◌then◌else◌, List, take, drop}
use Rattle.std.specs.Prelude.{Option, Some, None, is_some, option_map}
use Rattle.std.specs.List.{position}
use Rattle.session_words.specs.Words.{number_up_to}
use Rattle.choice_words.specs.declared.numbers.TypedNumbers.{TypedNumbers}
use Rattle.choice_words.specs.declared.numbers.TypedNumbers.TheVariants.{One, Range}

-- numbers of records begin with 1
abbrev pub from_one : Option ℕ → Option ℕ
from_one None = None
from_one (Some n) = if nat_le 1 n then Some n else None

-- a number of a record: at most 2^32 - 1
abbrev pub record_number : List ℕ → Option ℕ
record_number word = from_one (number_up_to 4294967295 word)

-- two numbers, of which the second is not the smaller one
abbrev pub range_typed : Option ℕ → Option ℕ → Option TypedNumbers
range_typed None last = None
range_typed (Some first) None = None
range_typed (Some first) (Some last) = if nat_le first last then Some (Range first last) else None

abbrev pub is_hyphen : ℕ → Bool
is_hyphen o = o == 45

-- what stands before the first hyphen, if there is one, and after it
abbrev pub numbers_round : Option ℕ → List ℕ → Option TypedNumbers
numbers_round None word = option_map One (record_number word)
numbers_round (Some i) word = range_typed (record_number (take i word)) (record_number (drop (i + 1) word))

-- what stands after the first hyphen, if there is one, and before it
abbrev pub reversed_round : Option ℕ → List ℕ → Option TypedNumbers
reversed_round None word = None
reversed_round (Some i) word = range_typed (record_number (drop (i + 1) word)) (record_number (take i word))

-- the range that a word is once its two numbers have changed places
abbrev pub reversed_typed : List ℕ → Option TypedNumbers
reversed_typed word = reversed_round (position is_hyphen word) word

-- THE NUMBERS THAT A WORD IS: one number, or a range
abbrev pub numbers_typed : List ℕ → Option TypedNumbers
numbers_typed word = numbers_round (position is_hyphen word) word

-- ALL NUMBERS OF RECORDS, as the range from the first to the last
abbrev pub is_all : TypedNumbers → Bool
is_all (One n) = false
is_all (Range first last) = (first == 1) && (last == 4294967295)

-- numbers of records, or a range of them backwards
abbrev pub is_numbers : List ℕ → Bool
is_numbers word = is_some (numbers_typed word) || is_some (reversed_typed word)
