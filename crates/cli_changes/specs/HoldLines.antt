-- The lines of a change of holds.
use Rattle.std.specs.Prelude.{ℕ, nat_lt, if◌then◌else◌, List, [], ◌∷◌, ◌++◌, codes, Option}
use Rattle.cli_texts.specs.Lines.{record_number}
use Rattle.cli_texts.specs.Words.{name, number, words}
use Rattle.cli_choice.specs.declared.holds.Change.{Change}
use Rattle.cli_choice.specs.declared.holds.Change.TheVariants.{Place, End}

abbrev pub change_words : Change → List ℕ
change_words Place = words (codes " hold ")
change_words End = words (codes " released ")

-- A HOLD WAS PLACED on a record, or released. The record is one of a volume, in an archive of volumes.
unfoldable pub changed_line : (volume : Option ℕ) → Change → (hold : List ℕ) → (n : ℕ) → List ℕ
changed_line volume change hold n =
    words (codes "record ") ++ record_number volume n ++ change_words change ++ name hold ++ 10 ∷ []

-- the name of a hold, and what is said of it
unfoldable pub said_words : (hold said : List ℕ) → List ℕ
said_words hold said = name hold ++ words (codes ": ") ++ words said

-- a count between words
unfoldable pub counted_words : (before : List ℕ) → (count : ℕ) → (after : List ℕ) → List ℕ
counted_words before count after = words before ++ number count ++ words after

-- what was found, where a hold keeps no record more: how many it keeps already, and else how many are destroyed
abbrev pub found_words : (passed destroyed : ℕ) → List ℕ
found_words passed destroyed =
    if nat_lt 0 passed then counted_words (codes "0 new, ") passed (codes " kept already")
    else if nat_lt 0 destroyed then counted_words (codes "found 0 live, ") destroyed (codes " destroyed")
    else words (codes "no record is found")

-- a name between words
unfoldable pub named_words : (before named after : List ℕ) → List ℕ
named_words before named after = words before ++ name named ++ words after

-- A HOLD KEEPS NO RECORD MORE, and why, in a line
abbrev pub no_more_line : (hold : List ℕ) → (passed destroyed : ℕ) → List ℕ
no_more_line hold passed destroyed =
    named_words (codes "hold ") hold (codes " keeps no record more: ") ++ found_words passed destroyed ++ 10 ∷ []
