-- What is typed of a choice before it is known whether the archive has volumes.
use Rattle.std.specs.Prelude.{◌≡◌, ℕ, ◌==◌, ◌&&◌, ◌||◌, nat_le, nat_lt, Bool, true, List, [], ◌∷◌, length, map, filter, Option, Some, None, is_none}
use Rattle.std.specs.Prelude.{option_map, if◌then◌else◌}
use Rattle.std.specs.List.{find, list_any}
use Rattle.std.specs.Option.{option_or}
use Rattle.choice_words.specs.declared.choice.Choice.{Choice}
use Rattle.choice_words.specs.declared.numbers.TypedNumbers.{TypedNumbers}
use Rattle.choice_words.specs.declared.numbers.TypedNumbers.TheVariants.{One}
use Rattle.choice_words.specs.declared.typed.TypedChoice.{TypedChoice}
use Rattle.choice_words.specs.declared.volumes.VolumeNumber.{VolumeNumber}
use Rattle.choice_words.specs.declared.volumes.VolumeNumbers.{VolumeNumbers}
use Rattle.choice_words.specs.Choices.{is_empty}

-- NOTHING IS TYPED, neither a number, with a volume or without, nor a condition
abbrev pub is_untyped : TypedChoice → Bool
is_untyped c = (length c.of_volumes.items == 0) && is_none c.from && is_empty c.alone

-- ---- numbers with a volume, and without

abbrev pub first_or : {X : Type 0} → Option X → List X → Option X
first_or other [] = other
first_or other (x ∷ xs) = Some x

-- the number from which records are looked at, as the numbers of a word
abbrev pub numbers_of_first : VolumeNumber → VolumeNumbers
numbers_of_first f = record { volume = f.volume; numbers = One f.number }

-- THE FIRST NUMBER THAT IS TYPED WITH A VOLUME, if one is; that from which records are looked at comes last
abbrev pub first_of_volumes : TypedChoice → Option VolumeNumbers
first_of_volumes c = first_or (option_map numbers_of_first c.from) c.of_volumes.items

abbrev pub number_after_one : ℕ → Option TypedNumbers
number_after_one n = if nat_le n 1 then None else Some (One n)

-- THE FIRST NUMBER THAT IS TYPED WITHOUT A VOLUME, if one is; that from which records are looked at comes last
abbrev pub first_alone : TypedChoice → Option TypedNumbers
first_alone c = first_or (number_after_one c.alone.from) c.alone.numbers.items

-- ---- one volume

abbrev pub is_of : ℕ → VolumeNumbers → Bool
is_of v w = w.volume == v

abbrev pub is_above : ℕ → VolumeNumbers → Bool
is_above v w = nat_lt v w.volume

abbrev pub first_number_above : ℕ → Option VolumeNumber → Option VolumeNumbers
first_number_above v None = None
first_number_above v (Some f) = if nat_lt v f.volume then Some (numbers_of_first f) else None

-- THE FIRST NUMBER THAT IS TYPED OF A VOLUME ABOVE ONE, if one is; that from which records are looked at comes last
abbrev pub first_above : ℕ → TypedChoice → Option VolumeNumbers
first_above v c = option_or (find (is_above v) c.of_volumes.items) (first_number_above v c.from)

-- the numbers of a volume, without its own
abbrev pub numbers_for : ℕ → List VolumeNumbers → List TypedNumbers
numbers_for v ws = map (λ (w : VolumeNumbers). w.numbers) (filter (is_of v) ws)

-- the volume is not before the one from which records are looked at
abbrev pub is_reached : ℕ → Option VolumeNumber → Bool
is_reached v None = true
is_reached v (Some f) = nat_le f.volume v

-- A VOLUME IS NAMED by one of the words, or none is
abbrev pub is_named_or_none : ℕ → List VolumeNumbers → Bool
is_named_or_none v ws = (length ws == 0) || list_any (is_of v) ws

-- RECORDS OF A VOLUME MAY BE ASKED FOR: none where numbers of other volumes alone are typed, and none before the first
abbrev pub is_asked_of : ℕ → TypedChoice → Bool
is_asked_of v c = is_named_or_none v c.of_volumes.items && is_reached v c.from

-- records of a volume are looked at from this number on: the typed one in the volume that is typed with it, and from 0 on in any other
abbrev pub from_number : ℕ → Option VolumeNumber → ℕ
from_number v None = 0
from_number v (Some f) = if f.volume == v then f.number else 0

-- THE CHOICE FOR A VOLUME ALONE: its numbers, the number from which its records are looked at, and the conditions as they are typed
pub record IsChoiceFor (v : ℕ) (c : TypedChoice) (d : Choice) : Type 0 where
  pub numbers : d.numbers.items ≡ numbers_for v c.of_volumes.items
  pub from : d.from ≡ from_number v c.from
  pub conditions : d ≡ record c.alone { numbers = d.numbers; from = d.from }
