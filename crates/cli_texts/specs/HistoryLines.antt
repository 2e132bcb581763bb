-- The lines of events, as a history is printed.
use Rattle.std.specs.Prelude.{ℕ, ◌+◌, ◌==◌, ◌||◌, Bool, true, false, if◌then◌else◌, List, [], ◌∷◌, ◌++◌, Option, Some, None, codes, decimal}
use Rattle.std.specs.List.{slice_split}
use Rattle.cli_texts.specs.Words.{free_words}
use Rattle.cli_texts.specs.declared.history_lines.NumberPlaces.{NumberPlaces}

abbrev pub is_at : (place : Option ℕ) → ℕ → Bool
is_at None at = false
is_at (Some place) at = place == at

-- THE WORDS THAT ARE NUMBERS: the first, which is that of the event, and those of records and messages
abbrev pub is_number_at : NumberPlaces → ℕ → Bool
is_number_at places at = (at == 0) || (is_at places.of_record at || is_at places.of_message at)

abbrev pub is_blank : ℕ → Bool
is_blank octet = octet == 32

-- what stands before the word at a place: a blank, but before the first
abbrev pub blank_before : ℕ → List ℕ
blank_before at = if at == 0 then [] else 32 ∷ []

-- what stands right before a word that is a number: that of the volume
abbrev pub volume_before : (volume : List ℕ) → (is_number : Bool) → List ℕ
volume_before volume true = volume ++ codes "/"
volume_before volume false = []

-- a word at a place, with what stands before it
abbrev pub word_in : (volume : List ℕ) → NumberPlaces → (at : ℕ) → (word : List ℕ) → List ℕ
word_in volume places at word = blank_before at ++ volume_before volume (is_number_at places at) ++ word

-- the words from a place on
abbrev pub words_in : (volume : List ℕ) → NumberPlaces → (at : ℕ) → List (List ℕ) → List ℕ
words_in volume places at [] = []
words_in volume places at (w ∷ ws) = word_in volume places at w ++ words_in volume places (at + 1) ws

-- THE LINE OF AN EVENT in a volume: the same words, each number as 3/17; in a store that is none the very line
abbrev pub line_in : (volume : Option ℕ) → NumberPlaces → (line : List ℕ) → List ℕ
line_in None places line = line
line_in (Some v) places line = words_in (decimal v) places 0 (slice_split is_blank line)

-- THE TEXT OF A LINE, with its end
abbrev pub history_text : List ℕ → List ℕ
history_text line = free_words line ++ 10 ∷ []
