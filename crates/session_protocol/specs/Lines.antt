-- Lines of a session's input.
use Rattle.std.specs.Prelude.{ℕ, ◌+◌, List, [], ◌∷◌, ◌==◌, ◌&&◌, nat_le, nat_lt, if◌then◌else◌, length, take, drop}
use Rattle.std.specs.List.{position_or_len}
use Rattle.session_protocol.specs.declared.lines.LineEnd.{LineEnd}
use Rattle.session_protocol.specs.declared.lines.LineEnd.TheVariants as ended

-- what an input begins with
pub data InputLine : Type 0 where
  -- a line, without its LF, and what follows the LF
  Whole : (text rest : List ℕ) → InputLine
  -- 513 octets without LF, and what follows them
  TooLong : (rest : List ℕ) → InputLine
  -- at most 512 octets without LF, and the end
  Cut : InputLine
  -- the end
  End : InputLine

-- where the first LF stands, or the input's length where there is none
abbrev pub line_length : List ℕ → ℕ
line_length input = position_or_len (λ o. o == 10) input

-- an input that ends without LF
abbrev pub cut_at : List ℕ → InputLine
cut_at [] = End
cut_at (x ∷ xs) = Cut

-- the first line of an input; a line has at most 512 octets
unfoldable pub line_of : List ℕ → InputLine
line_of input =
    if nat_lt (line_length input) (length input) && nat_le (line_length input) 512
    then Whole (take (line_length input) input) (drop (line_length input + 1) input)
    else if nat_lt 512 (length input) then TooLong (drop 513 input)
    else cut_at input

-- what was found, as the program reports it
abbrev pub line_as : LineEnd → (text rest : List ℕ) → InputLine
line_as ended.Whole text rest = Whole text rest
line_as ended.TooLong text rest = TooLong rest
line_as ended.Cut text rest = Cut
line_as ended.Nothing text rest = End
