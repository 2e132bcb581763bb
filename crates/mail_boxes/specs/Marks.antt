-- What the lines of an mbox are, each with its end (RFC 4155, and for quoting the rule of mboxrd).
use Rattle.std.specs.Prelude.{ℕ, Bool, true, false, List, [], ◌∷◌, ◌==◌, ◌&&◌, ◌||◌, drop, if◌then◌else◌}
use Rattle.std.specs.Char.{is_ascii_digit}

-- an LF alone, or a CR and an LF
abbrev pub is_empty_line : List ℕ → Bool
is_empty_line (a ∷ []) = a == 10
is_empty_line (a ∷ b ∷ []) = (a == 13) && (b == 10)
is_empty_line _ = false

-- a text that begins with "From "
abbrev pub begins_with_from : List ℕ → Bool
begins_with_from (a ∷ b ∷ c ∷ d ∷ e ∷ rest) = (a == 70) && (b == 114) && (c == 111) && (d == 109) && (e == 32)
begins_with_from _ = false

-- ---- the date of a separator, as C's asctime writes it

-- these three letters
abbrev pub are : ℕ → ℕ → ℕ → ℕ → ℕ → ℕ → Bool
are a b c x y z = (a == x) && (b == y) && (c == z)

-- Sun, Mon, Tue, Wed, Thu, Fri or Sat
abbrev pub is_weekday : ℕ → ℕ → ℕ → Bool
is_weekday a b c = are a b c 83 117 110 || are a b c 77 111 110 || are a b c 84 117 101 || are a b c 87 101 100 ||
    are a b c 84 104 117 || are a b c 70 114 105 || are a b c 83 97 116

-- Jan, Feb, Mar, Apr, May, Jun, Jul, Aug, Sep, Oct, Nov or Dec
abbrev pub is_month : ℕ → ℕ → ℕ → Bool
is_month a b c = are a b c 74 97 110 || are a b c 70 101 98 || are a b c 77 97 114 || are a b c 65 112 114 ||
    are a b c 77 97 121 || are a b c 74 117 110 || are a b c 74 117 108 || are a b c 65 117 103 ||
    are a b c 83 101 112 || are a b c 79 99 116 || are a b c 78 111 118 || are a b c 68 101 99

-- a text that begins with an hour and a minute, as 09:30
abbrev pub begins_with_time : List ℕ → Bool
begins_with_time (a ∷ b ∷ c ∷ d ∷ e ∷ rest) = is_ascii_digit a && is_ascii_digit b && (c == 58) && is_ascii_digit d && is_ascii_digit e
begins_with_time _ = false

-- a text that begins with a day of one digit, a space and a time
abbrev pub begins_with_short_day : List ℕ → Bool
begins_with_short_day (a ∷ b ∷ rest) = is_ascii_digit a && (b == 32) && begins_with_time rest
begins_with_short_day _ = false

-- the same with a day of two digits, or of a space and a digit
abbrev pub begins_with_long_day : List ℕ → Bool
begins_with_long_day (a ∷ b ∷ c ∷ rest) = (is_ascii_digit a || (a == 32)) && is_ascii_digit b && (c == 32) && begins_with_time rest
begins_with_long_day _ = false

-- a text that begins with a weekday, a month, a day and a time, as Thu Jan  1 09:30
abbrev pub begins_with_date : List ℕ → Bool
begins_with_date (a ∷ b ∷ c ∷ d ∷ e ∷ f ∷ g ∷ h ∷ rest) = is_weekday a b c && (d == 32) && is_month e f g && (h == 32) &&
    (begins_with_short_day rest || begins_with_long_day rest)
begins_with_date _ = false

-- such a date stands in the text after a space
unfoldable pub has_date : List ℕ → Bool
has_date [] = false
has_date (c ∷ rest) = ((c == 32) && begins_with_date rest) || has_date rest

-- A SEPARATOR: a line that begins with "From " and has a date
abbrev pub is_separator : List ℕ → Bool
is_separator line = begins_with_from line && has_date (drop 4 line)

-- ---- quoting

-- one > or more before "From "
unfoldable pub is_quoted : List ℕ → Bool
is_quoted [] = false
is_quoted (c ∷ rest) = (c == 62) && (begins_with_from rest || is_quoted rest)

-- a line as it was before it was quoted
abbrev pub unquoted : List ℕ → List ℕ
unquoted line = if is_quoted line then drop 1 line else line
