-- The words of a command as typed, and its line as a session takes it.
use Rattle.std.specs.Prelude.{ℕ, List, [], ◌∷◌, ◌++◌, ◌==◌, ◌&&◌, ◌-◌, nat_le, if◌then◌else◌, codes, decimal, length, map, take, drop, slice_index}
use Rattle.std.specs.List.{join_with_byte}
use Rattle.tool_texts.specs.declared.framing.Framed.{Framed}
use Rattle.tool_texts.specs.declared.framing.Framed.TheVariants as framed
use Rattle.tool_texts.specs.declared.framing.LinePart.{LinePart}
use Rattle.tool_texts.specs.declared.framing.LinePart.TheVariants.{Word, Moment, File, Here}

-- a path as typed, without the quotation marks around it, if these are there
abbrev pub path_in : List ℕ → List ℕ
path_in typed = if nat_le 2 (length typed) && (slice_index typed 0 == 34) && (slice_index typed (length typed - 1) == 34)
    then take (length typed - 2) (drop 1 typed) else typed

-- the word as typed
abbrev pub word_of : LinePart → List ℕ
word_of (Word w) = w.now
word_of Moment = codes "@now"
word_of (File payload path) = 64 ∷ path.now
word_of (Here w count) = w.now

-- the word in a session: for a file its number of octets
abbrev pub session_word : Framed → List ℕ
session_word (framed.Word w) = w.now
session_word (framed.Moment seconds) = decimal seconds
session_word (framed.File octets) = decimal (length octets.items)
session_word (framed.Here w count) = w.now

-- the words with one space between each two, and a line feed
abbrev pub line_of : List Framed → List ℕ
line_of words = join_with_byte 32 (map session_word words) ++ 10 ∷ []
