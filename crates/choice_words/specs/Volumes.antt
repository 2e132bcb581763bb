-- The words that are numbers of records of a volume.
use Rattle.std.specs.Prelude.{ℕ, ◌+◌, ◌==◌, ◌||◌, Bool, List, [], ◌∷◌, take, drop, Option, Some, None, is_some}
use Rattle.std.specs.List.{position}
use Rattle.session_words.specs.Words.{number_up_to}
use Rattle.choice_words.specs.declared.numbers.TypedNumbers.{TypedNumbers}
use Rattle.choice_words.specs.declared.numbers.TypedNumbers.TheVariants.{Range}
use Rattle.choice_words.specs.declared.volumes.VolumeNumber.{VolumeNumber}
use Rattle.choice_words.specs.declared.volumes.VolumeNumbers.{VolumeNumbers}
use Rattle.choice_words.specs.Numbers.{from_one, numbers_typed, record_number, reversed_typed}

-- a number of a volume: at most 9999
abbrev pub volume_of : List ℕ → Option ℕ
volume_of word = from_one (number_up_to 9999 word)

abbrev pub is_slash : ℕ → Bool
is_slash o = o == 47

abbrev pub numbers_in : Option ℕ → Option TypedNumbers → Option VolumeNumbers
numbers_in None numbers = None
numbers_in (Some v) None = None
numbers_in (Some v) (Some t) = Some (record { volume = v; numbers = t })

abbrev pub number_in : Option ℕ → Option ℕ → Option VolumeNumber
number_in None number = None
number_in (Some v) None = None
number_in (Some v) (Some n) = Some (record { volume = v; number = n })

-- behind a slash stand numbers, or nothing, which means all
abbrev pub numbers_behind : List ℕ → Option TypedNumbers
numbers_behind [] = Some (Range 1 4294967295)
numbers_behind (b ∷ bs) = numbers_typed (b ∷ bs)

-- what is read of the volume before the first slash, if there is one, and of what stands behind it
abbrev pub round_slash : {X Y : Type 0} → (Option ℕ → Option Y → Option X) → (List ℕ → Option Y) → Option ℕ → List ℕ → Option X
round_slash made behind None word = None
round_slash made behind (Some i) word = made (volume_of (take i word)) (behind (drop (i + 1) word))

-- THE NUMBERS OF A VOLUME THAT A WORD IS
abbrev pub volume_numbers : List ℕ → Option VolumeNumbers
volume_numbers word = round_slash numbers_in numbers_behind (position is_slash word) word

-- THE NUMBER OF ONE RECORD OF A VOLUME THAT A WORD IS
abbrev pub volume_number : List ℕ → Option VolumeNumber
volume_number word = round_slash number_in record_number (position is_slash word) word

-- the range of a volume that a word is once its two numbers have changed places
abbrev pub reversed_in_volume : List ℕ → Option VolumeNumbers
reversed_in_volume word = round_slash numbers_in reversed_typed (position is_slash word) word

-- numbers of records of a volume, or a range of them backwards
abbrev pub is_numbers_of_volume : List ℕ → Bool
is_numbers_of_volume word = is_some (volume_numbers word) || is_some (reversed_in_volume word)
