-- The lines of a message and its header (RFC 5322, sections 2.1, 2.2 and 2.2.3), read leniently. A bare LF ends a line
-- as CRLF does, a line has any length and any octets, and the message's end ends the last line.
use Rattle.std.specs.Prelude.{ℕ, suc, ◌-◌, Bool, false, List, [], ◌∷◌, ◌++◌, length, take, nat_lt, ◌==◌, ◌&&◌, ◌||◌, slice_index, if◌then◌else◌}

-- space or tab: white space in RFC 5322, section 2.2
abbrev pub is_blank : ℕ → Bool
is_blank b = (b == 32) || (b == 9)

-- the lines with one more octet at the front of the first
abbrev pub into_first : ℕ → List (List ℕ) → List (List ℕ)
into_first b [] = (b ∷ []) ∷ []
into_first b (line ∷ lines) = (b ∷ line) ∷ lines

-- the lines of a text (RFC 5322, section 2.1), each with its end: an LF ends a line, and the end of the text the last
-- one
unfoldable pub raw_lines : List ℕ → List (List ℕ)
raw_lines [] = []
raw_lines (b ∷ bs) = if b == 10 then (b ∷ []) ∷ raw_lines bs else into_first b (raw_lines bs)

-- the octets without the last one, where that is c
abbrev pub without_last : ℕ → List ℕ → List ℕ
without_last c bs = if (nat_lt 0 (length bs) && (slice_index bs (length bs - 1) == c)) then take (length bs - 1) bs
    else bs

-- a line without its end, which is an LF and one CR directly before it; without an LF at its end it keeps its CR
abbrev pub without_end : List ℕ → List ℕ
without_end line = if (nat_lt 0 (length line) && (slice_index line (length line - 1) == 10))
    then without_last 13 (without_last 10 line) else line

-- the header (RFC 5322, section 2.1): the lines before the first one without octets, or all where there is none
unfoldable pub header_lines : List (List ℕ) → List (List ℕ)
header_lines [] = []
header_lines (line ∷ lines) = if nat_lt 0 (length (without_end line)) then line ∷ header_lines lines else []

-- the header of a text
abbrev pub header_of : List ℕ → List (List ℕ)
header_of text = header_lines (raw_lines text)

abbrev pub begins_blank : List ℕ → Bool
begins_blank [] = false
begins_blank (b ∷ bs) = is_blank b

-- the logical lines where one has begun: it takes in the lines after it as long as they begin with a blank
unfoldable pub logical_from : List ℕ → List (List ℕ) → List (List ℕ)
logical_from begun [] = begun ∷ []
logical_from begun (line ∷ lines) = if begins_blank line then logical_from (begun ++ line) lines
    else begun ∷ logical_from line lines

-- the logical lines (RFC 5322, section 2.2.3): a line joined with all lines directly after it that begin with a blank
unfoldable pub logical_lines : List (List ℕ) → List (List ℕ)
logical_lines [] = []
logical_lines (line ∷ lines) = logical_from line lines

-- the length of the first line of a text in octets, its end included
unfoldable pub line_len : List ℕ → ℕ
line_len [] = 0
line_len (b ∷ bs) = if b == 10 then 1 else suc (line_len bs)
