-- Due days as day numbers (days since 1970-01-01), counted from the number of the capture day, in
-- the years 1970 to 9999.
use Rattle.std.specs.Prelude.{ℕ, zero, suc, ◌+◌, ◌-◌, ◌*◌, ◌/◌, ◌%◌, min, nat_lt, true, false, if◌then◌else◌, pos, unsigned_abs, List, Option, Some, None, option_and_then}
use Rattle.jiff.specs.Words.{days_in_month, days_in_year, epoch_day}
use Rattle.jiff_core.specs.Calendar.{days_from_civil}
use Rattle.jiff_core.specs.declared.civil.date.Date.{Date}
use Rattle.class_plan.specs.declared.schedules.Unit.{Unit as TimeUnit}
use Rattle.class_plan.specs.declared.schedules.Unit.TheVariants.{Days, Months, Years}
use Rattle.class_plan.specs.declared.schedules.Schedule.{Schedule}
use Rattle.class_plan.specs.declared.schedules.Schedule.TheVariants.{Permanent, After}
use Rattle.class_plan.specs.Plans.{Listing, schedule_at}

-- the number of a day that is not before 1970
abbrev pub number_of_day : Date → ℕ
number_of_day d = unsigned_abs (epoch_day d)

-- a date as its year, month and day
pub record Civil : Type 0 where
  pub year : ℕ
  pub month : ℕ
  pub day : ℕ

-- the date n days after the first of a month: whole months are counted off, at most the first
-- argument of them
abbrev pub in_year : ℕ → ℕ → ℕ → ℕ → Civil
in_year zero y m n = record { year = y; month = m; day = n + 1 }
in_year (suc k) y m n = if nat_lt n (days_in_month (pos y) m) then record { year = y; month = m; day = n + 1 } else in_year k y (m + 1) (n - days_in_month (pos y) m)

-- the date n days after the first day of a year: whole years are counted off first
abbrev pub from_year : ℕ → ℕ → ℕ → Civil
from_year zero y n = in_year 11 y 1 n
from_year (suc k) y n = if nat_lt n (days_in_year (pos y)) then in_year 11 y 1 n
    else from_year k (y + 1) (n - days_in_year (pos y))

-- the date with a day number
abbrev pub civil : ℕ → Civil
civil n = from_year 8029 1970 n

-- the day number of a date
abbrev pub number_of : Civil → ℕ
number_of c = unsigned_abs (days_from_civil (pos c.year) c.month c.day)

-- the day, cut to the month's last
abbrev pub day_within_month : ℕ → ℕ → ℕ → Civil
day_within_month y m d = record { year = y; month = m; day = min d (days_in_month (pos y) m) }

abbrev pub months_after : Civil → ℕ → Civil
months_after c n = day_within_month ((c.year * 12 + (c.month - 1) + n) / 12) ((c.year * 12 + (c.month - 1) + n) % 12 + 1) c.day

abbrev pub years_after : Civil → ℕ → Civil
years_after c n = day_within_month (c.year + n) c.month c.day

-- the number of the day a period later
abbrev pub period_after : ℕ → ℕ → TimeUnit → ℕ
period_after d n Days = d + n
period_after d n Months = number_of (months_after (civil d) n)
period_after d n Years = number_of (years_after (civil d) n)

-- 31 December of the date's year
abbrev pub last_of_year : Civil → Civil
last_of_year c = record { year = c.year; month = 12; day = 31 }

-- the number of the due day by a schedule
abbrev pub due_by : ℕ → Schedule → Option ℕ
due_by d Permanent = None
due_by d (After n u a false) = Some (period_after d n u)
due_by d (After n u a true) = Some (number_of (last_of_year (civil (period_after d n u))))

-- the number of the due day of a record that was captured on a day in the class of a path; None
-- where the schedule is permanent or the path is no class
abbrev pub due_on : Listing → List ℕ → ℕ → Option ℕ
due_on p q d = option_and_then (due_by d) (schedule_at p q)
