-- Which records are chosen by the words that are typed.
use Rattle.std.specs.Prelude.{◌≡◌, ℕ, Bool, true, false, List, [], codes, Option, Some, None, option_map, int_lt}
use Rattle.jiff.specs.Types.{Date}
use Rattle.jiff.specs.Words.{epoch_day}
use Rattle.clap.specs.declared.parser.matches.Found.{Found}
use Rattle.choice_words.specs.Typed.{is_untyped}
use Rattle.choice_words.specs.declared.choice.Choice.{Choice}
use Rattle.choice_words.specs.declared.typed.TypedChoice.{TypedChoice}
use Rattle.choice_words.specs.declared.volumes.VolumeNumber.{VolumeNumber}
use Rattle.command_lines.specs.Asked.{is_given, text_in, text_of, value_in, values_in}
use Rattle.command_lines.specs.Days.{IsDay}
use Rattle.command_lines.specs.Numbers.{AreTyped, number_typed}

-- the last day is before the first one
abbrev pub are_backwards : (first last : Option Date) → Bool
are_backwards (Some first) (Some last) = int_lt (epoch_day last) (epoch_day first)
are_backwards (Some first) None = false
are_backwards None last = false

-- the days of capture from which and up to which records are asked for
pub record AreDays (found : Found) (first last : Option Date) : Type 0 where
  pub since : IsDay (value_in found (codes "since")) first
  pub until : IsDay (value_in found (codes "until")) last
  pub order : are_backwards first last ≡ false

-- THE CONDITIONS THAT ARE TYPED, and no other one
pub record AreConditions (found : Found) (choice : Choice) : Type 0 where
  pub class : text_of choice.class ≡ value_in found (codes "class")
  pub due : IsDay (value_in found (codes "due")) choice.due
  pub days : AreDays found choice.since choice.until
  pub held : choice.is_held ≡ is_given found (codes "held")
  pub live : choice.is_live ≡ is_given found (codes "live")
  pub destroyed : choice.is_destroyed ≡ is_given found (codes "destroyed")
  pub test : text_of choice.test ≡ value_in found (codes "where")
  pub sender : text_of choice.sender ≡ text_in found (codes "sender")
  pub recipient : text_of choice.recipient ≡ text_in found (codes "recipient")
  pub subject : text_of choice.subject ≡ text_in found (codes "subject")

-- CONDITIONS ALONE, without any number
pub record AreConditioned (found : Found) (choice : TypedChoice) : Type 0 where
  pub conditions : AreConditions found choice.alone
  pub numbers : choice.alone.numbers.items ≡ []
  pub of_volumes : choice.of_volumes.items ≡ []
  pub from : choice.alone.from ≡ 1
  pub first : choice.from ≡ None

-- THE NUMBERS AND THE CONDITIONS THAT ARE TYPED
pub record AreNamed (found : Found) (choice : TypedChoice) : Type 0 where
  pub numbers : AreTyped (values_in found (codes "chosen")) (record { alone = choice.alone.numbers; of_volumes = choice.of_volumes })
  pub conditions : AreConditions found choice.alone

-- the same from the first record on
pub record AreMeant (found : Found) (choice : TypedChoice) : Type 0 where
  pub named : AreNamed found choice
  pub from : choice.alone.from ≡ 1
  pub first : choice.from ≡ None

-- the number from which records are looked at: without a volume, or else with one
abbrev pub parted : Option ℕ × ℕ → ℕ × Option VolumeNumber
parted (None, n) = (n, None)
parted (Some v, n) = (1, Some (record { volume = v; number = n }))

abbrev pub first_typed : (word : Option (List ℕ)) → Option (ℕ × Option VolumeNumber)
first_typed None = Some (1, None)
first_typed (Some word) = option_map parted (number_typed word)

-- THE CHOICE THAT IS TYPED: its numbers, its conditions, and the record from which on records are looked at
pub record AreChosen (found : Found) (choice : TypedChoice) : Type 0 where
  pub named : AreNamed found choice
  pub first : first_typed (value_in found (codes "from")) ≡ Some (choice.alone.from, choice.from)

-- SOME RECORDS MUST BE NAMED, and these are
pub record AreHeld (found : Found) (choice : TypedChoice) : Type 0 where
  pub meant : AreMeant found choice
  pub some : is_untyped choice ≡ false

-- NO RECORD IS NAMED, and no condition is typed
abbrev pub IsUnnamed : Found → Type 0
IsUnnamed found = (choice : TypedChoice) × AreMeant found choice × (is_untyped choice ≡ true)

-- the same of a choice, from which record on it may look
abbrev pub IsUnchosen : Found → Type 0
IsUnchosen found = (choice : TypedChoice) × AreChosen found choice × (is_untyped choice ≡ true)
