-- The years of a timeline, and its columns.
use Rattle.std.specs.Prelude.{◌≡◌, ℕ, Bool, List, [], ◌∷◌, ◌++◌, ◌+◌, ◌-◌, ◌==◌, ◌&&◌, ◌||◌}
use Rattle.std.specs.Prelude.{nat_lt, nat_le, if◌then◌else◌, slice_get, slice_set, Some, length, replicate}
use Rattle.std.specs.List.{sum_by, prefix_len, suffix_len}
use Rattle.cli_page.specs.declared.dates.DueDay.{DueDay}
use Rattle.cli_page.specs.declared.years.Year.{Year}
use Rattle.cli_page.specs.declared.years.Column.{Column}

abbrev pub first_year : ℕ
first_year = 1970

-- all records of a year
abbrev pub in_year : Year → ℕ
in_year y = y.due + y.later

abbrev pub in_years : List Year → ℕ
in_years years = sum_by in_year years

-- all records of a column
abbrev pub in_column : Column → ℕ
in_column c = c.due + c.later

abbrev pub in_columns : List Column → ℕ
in_columns columns = sum_by in_column columns

-- a year with one record more, which is due by the day or later
abbrev pub with_one : Bool → Year → Year
with_one is_due y = if is_due then record y { due = y.due + 1 } else record y { later = y.later + 1 }

-- one record more in its year, and nothing else
pub record AddsOne (day : ℕ) (due : DueDay) (old new : List Year) : Type 0 where
  pub year : Year
  pub was : slice_get old (due.year - first_year) ≡ Some year
  pub is : new ≡ slice_set old (due.year - first_year) (with_one (nat_le due.day day) year)
  pub sum : in_years new ≡ in_years old + 1

-- ---- the columns of a timeline

abbrev pub no_year : Year
no_year = record { due = 0; later = 0 }

-- no records in any of the years 1970 to 9999
unfoldable pub no_years : List Year
no_years = replicate 8030 no_year

abbrev pub is_empty_year : Year → Bool
is_empty_year y = (y.due == 0) && (y.later == 0)

-- how many years lie from the first to the last that have a record, these among them
abbrev pub breadth_of : List Year → ℕ
breadth_of years = length years - (prefix_len is_empty_year years + suffix_len is_empty_year years)

-- how many years a column has: the least of these numbers that makes the breadth less than forty columns
abbrev pub span_of : (breadth : ℕ) → ℕ
span_of breadth =
    if nat_lt breadth 40 then 1
    else if nat_lt breadth 80 then 2
    else if nat_lt breadth 200 then 5
    else if nat_lt breadth 400 then 10
    else if nat_lt breadth 800 then 20
    else if nat_lt breadth 2000 then 50
    else if nat_lt breadth 4000 then 100
    else 250

-- a column that has none of its years yet
abbrev pub no_column : (first : ℕ) → Column
no_column first = record { from = first; years = 0; due = 0; later = 0 }

-- the same column with a year more
abbrev pub with_year : Column → Year → Column
with_year c y = record { from = c.from; years = c.years + 1; due = c.due + y.due; later = c.later + y.later }

-- a column, where it has a record
abbrev pub if_any : Column → List Column
if_any c = if nat_lt 0 c.due || nat_lt 0 c.later then c ∷ [] else []

-- this column with the years that follow its own, up to its span, and then the next ones
abbrev pub columns_from : (span : ℕ) → Column → List Year → List Column
columns_from span c [] = if_any c
columns_from span c (y ∷ ys) =
    if nat_le span (c.years + 1) then if_any (with_year c y) ++ columns_from span (no_column (c.from + span)) ys
    else columns_from span (with_year c y) ys

-- the columns of a timeline from 1970 on
abbrev pub columns_of : List Year → List Column
columns_of years = columns_from (span_of (breadth_of years)) (no_column first_year) years
