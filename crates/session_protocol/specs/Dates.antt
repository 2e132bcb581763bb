-- Dates as words and in replies: `YYYY-MM-DD`, the full-date of RFC 3339, section 5.6, of the years 1970 to 9999. A day
-- is given by its number, counted from 1970-01-01.
use Rattle.std.specs.Prelude.{ℕ, ℤ, pos, negsuc, List, ◌++◌, Bool, ◌&&◌, ◌==◌, nat_lt, nat_le, if◌then◌else◌, Option, Some, None, length, slice_index, take, drop, codes, decimal}
use Rattle.jiff.specs.Words.{days_in_month}
use Rattle.class_plan.specs.Calendar.{Civil, civil, number_of}
use Rattle.desk_commands.specs.Limits.{last_day}
use Rattle.session_words.specs.Words.{digits_up_to}

-- ten octets, of which the fifth and the eighth are dashes
abbrev pub has_dashes : List ℕ → Bool
has_dashes word = (length word == 10) && (slice_index word 4 == 45) && (slice_index word 7 == 45)

abbrev pub civil_from : (year month day : Option ℕ) → Option Civil
civil_from (Some year) (Some month) (Some day) = Some (record { year = year; month = month; day = day })
civil_from (Some year) (Some month) None = None
civil_from (Some year) None day = None
civil_from None month day = None

-- the year, the month and the day of a word: four, two and two digits
abbrev pub civil_of : List ℕ → Option Civil
civil_of word =
    if has_dashes word then civil_from (digits_up_to 9999 (take 4 word)) (digits_up_to 12 (take 2 (drop 5 word)))
    (digits_up_to 31 (take 2 (drop 8 word))) else None

-- a date that the calendar has, in the years 1970 to 9999
abbrev pub is_real : Civil → Bool
is_real c =
    nat_le 1970 c.year && nat_le c.year 9999 && nat_le 1 c.month && nat_le c.month 12
    && nat_le 1 c.day && nat_le c.day (days_in_month (pos c.year) c.month)

abbrev pub real_day : Option Civil → Option ℕ
real_day (Some c) = if is_real c then Some (number_of c) else None
real_day None = None

-- the day of a word
unfoldable pub day_of : List ℕ → Option ℕ
day_of word = real_day (civil_of word)

-- a month or a day has two digits
abbrev pub two_digits : ℕ → List ℕ
two_digits n = if nat_lt n 10 then codes "0" ++ decimal n else decimal n

-- and a year of 1970 to 9999 four
abbrev pub civil_octets : Civil → List ℕ
civil_octets c = decimal c.year ++ codes "-" ++ two_digits c.month ++ codes "-" ++ two_digits c.day

-- the text of a day
unfoldable pub day_octets : ℕ → List ℕ
day_octets day = civil_octets (civil day)

-- when a record is due: on a day, or never where it has none; a day outside the years 1970 to 9999 is written as never
abbrev pub due_octets : Option ℤ → List ℕ
due_octets (Some (pos day)) = if nat_le day last_day then day_octets day else codes "never"
due_octets (Some (negsuc n)) = codes "never"
due_octets None = codes "never"
