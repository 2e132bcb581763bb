-- The numbers of records that are typed, with a volume or without.
use Rattle.std.specs.Prelude.{◌≡◌, ℕ, ◌++◌, ◌||◌, Bool, true, List, [], ◌∷◌, flat_map, Option, Some, None, is_some, option_map}
use Rattle.std.specs.Prelude.{IfSome, Vec}
use Rattle.std.specs.declared.alloc.Global.{Global}
use Rattle.std.specs.List.{list_all}
use Rattle.session_words.specs.Words.{number_up_to}
use Rattle.choice_words.specs.Numbers.{numbers_typed}
use Rattle.choice_words.specs.Typed.{is_named_or_none, numbers_for}
use Rattle.choice_words.specs.Volumes.{volume_number, volume_numbers}
use Rattle.choice_words.specs.declared.numbers.TypedNumbers.{TypedNumbers}
use Rattle.choice_words.specs.declared.volumes.VolumeNumber.{VolumeNumber}
use Rattle.choice_words.specs.declared.volumes.VolumeNumbers.{VolumeNumbers}
use Rattle.command_lines.specs.declared.archives.TypedNumber.{TypedNumber}
use Rattle.command_lines.specs.declared.archives.numbers.Numbers.{Numbers}

-- ---- one number

abbrev pub volume_and_number : (of_volume : Option VolumeNumber) → (alone : Option ℕ) → Option (Option ℕ × ℕ)
volume_and_number (Some n) alone = Some (Some n.volume, n.number)
volume_and_number None alone = option_map (λ n. (None, n)) alone

-- THE NUMBER OF A RECORD THAT A WORD IS, with that of its volume, if it has one
abbrev pub number_typed : List ℕ → Option (Option ℕ × ℕ)
number_typed word = volume_and_number (volume_number word) (number_up_to 4294967295 word)

-- a number is that of a word, as it is typed
pub record IsNumberOf (word : Option (List ℕ)) (n : TypedNumber) : Type 0 where
  pub typed : word ≡ Some n.word.now
  pub number : number_typed n.word.now ≡ Some (n.volume, n.number)

-- ---- of one volume

-- THE NUMBERS OF A VOLUME ALONE among these: none where other volumes alone are named
pub record AreOfVolume (v : ℕ) (words : List VolumeNumbers) (numbers : Option (Vec TypedNumbers Global)) : Type 0 where
  pub asked : is_some numbers ≡ is_named_or_none v words
  pub own : IfSome numbers (λ (ns : Vec TypedNumbers Global). ns.items ≡ numbers_for v words)

-- ---- several

abbrev pub listed : {X : Type 0} → Option X → List X
listed None = []
listed (Some x) = x ∷ []

-- the numbers with a volume that a word is
abbrev pub of_volumes_in : List ℕ → List VolumeNumbers
of_volumes_in word = listed (volume_numbers word)

abbrev pub alone_unless : Option VolumeNumbers → Option TypedNumbers → List TypedNumbers
alone_unless (Some w) alone = []
alone_unless None alone = listed alone

-- the numbers without a volume that a word is
abbrev pub alone_in : List ℕ → List TypedNumbers
alone_in word = alone_unless (volume_numbers word) (numbers_typed word)

abbrev pub are_numbers : List ℕ → Bool
are_numbers word = is_some (volume_numbers word) || is_some (numbers_typed word)

-- THE NUMBERS OF A WORD ARE ADDED, if it is any
pub record AddsWord (word : List ℕ) (old new : Numbers) (is_any : Bool) : Type 0 where
  pub alone : new.alone.items ≡ old.alone.items ++ alone_in word
  pub of_volumes : new.of_volumes.items ≡ old.of_volumes.items ++ of_volumes_in word
  pub any : is_any ≡ are_numbers word

-- THE NUMBERS OF ALL WORDS, each of which is some
pub record AreTyped (words : List (List ℕ)) (numbers : Numbers) : Type 0 where
  pub alone : numbers.alone.items ≡ flat_map alone_in words
  pub of_volumes : numbers.of_volumes.items ≡ flat_map of_volumes_in words
  pub each : list_all are_numbers words ≡ true
