-- The days that are typed: `YYYY-MM-DD`, of the years 1970 to 9999.
use Rattle.std.specs.Prelude.{◌≡◌, ℕ, ℤ, pos, List, Bool, ◌&&◌, ◌==◌, nat_le, if◌then◌else◌, Option, Some, None, option_map, length, slice_index, take, drop}
use Rattle.jiff.specs.Types.{Date}
use Rattle.jiff.specs.Words.{days_in_month}
use Rattle.session_words.specs.Words.{digits_up_to}

-- a year, a month and a day of the month
pub record Parts : Type 0 where
  pub year : ℕ
  pub month : ℕ
  pub day : ℕ

-- ten octets, of which the fifth and the eighth are hyphens
abbrev pub has_hyphens : List ℕ → Bool
has_hyphens word = (length word == 10) && (slice_index word 4 == 45) && (slice_index word 7 == 45)

abbrev pub parts_from : (year month day : Option ℕ) → Option Parts
parts_from (Some year) (Some month) (Some day) = Some (record { year = year; month = month; day = day })
parts_from (Some year) (Some month) None = None
parts_from (Some year) None day = None
parts_from None month day = None

-- the year, the month and the day that a word has: four, two and two digits, with hyphens between them
abbrev pub parts_of : List ℕ → Option Parts
parts_of word =
    if has_hyphens word then parts_from (digits_up_to 9999 (take 4 word)) (digits_up_to 12 (take 2 (drop 5 word)))
    (digits_up_to 31 (take 2 (drop 8 word))) else None

-- the calendar has this day, in the years 1970 to 9999
abbrev pub is_real : Parts → Bool
is_real p =
    nat_le 1970 p.year && nat_le p.year 9999 && nat_le 1 p.month && nat_le p.month 12
    && nat_le 1 p.day && nat_le p.day (days_in_month (pos p.year) p.month)

-- a day, by its year, its month and its day of the month
abbrev pub Named : Type 0
Named = ℤ × ℕ × ℕ

abbrev pub named : Date → Named
named d = (d.year, d.month, d.day)

abbrev pub real_day : Option Parts → Option Named
real_day (Some p) = if is_real p then Some (pos p.year, p.month, p.day) else None
real_day None = None

-- THE DAY THAT A WORD IS
unfoldable pub day_typed : List ℕ → Option Named
day_typed word = real_day (parts_of word)

-- THE DAY OF A WORD that may be missing: none where it is, and otherwise the day that it is, so that no other word is taken for one
abbrev pub IsDay : (word : Option (List ℕ)) → (day : Option Date) → Type 0
IsDay word day = option_map (λ d. Some (named d)) day ≡ option_map day_typed word
