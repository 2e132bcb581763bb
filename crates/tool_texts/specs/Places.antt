-- The line and the column of an offset in a text.
use Rattle.std.specs.Prelude.{ℕ, Bool, List, ◌+◌, ◌-◌, ◌==◌, not, count_by, length, take, drop}
use Rattle.std.specs.List.{suffix_len, before_first}

abbrev pub is_line_feed : ℕ → Bool
is_line_feed b = b == 10

-- one more than the line feeds before the offset
abbrev pub line_of : List ℕ → ℕ → ℕ
line_of text offset = count_by is_line_feed (take offset text) + 1

-- how many octets come after the last line feed before the offset, or after the text's beginning, up to the offset
abbrev pub octets_before : List ℕ → ℕ → ℕ
octets_before text offset = suffix_len (λ b. not (is_line_feed b)) (take offset text)

-- one more than these
abbrev pub column_of : List ℕ → ℕ → ℕ
column_of text offset = octets_before text offset + 1

-- the line of the offset: from its beginning up to the first line feed, or to the text's end
abbrev pub line_text : List ℕ → ℕ → List ℕ
line_text text offset = before_first is_line_feed (drop (length (take offset text) - octets_before text offset) text)
