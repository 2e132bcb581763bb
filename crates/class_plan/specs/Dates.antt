-- Due dates, in terms of year, month, day and day number (days since 1970-01-01).
use Rattle.std.specs.Prelude.{◌≡◌, ℕ, true, false, ◌+◌, ◌*◌, ◌-◌, ◌/◌, ◌%◌, ◌<◌, ◌⊎◌, min, pos, ◌+ℤ◌, ◌<ℤ◌, List, Option, Some, None, MatchOption, unsigned_abs}
use Rattle.jiff.specs.Words.{days_in_month, epoch_day, IsBetween}
use Rattle.jiff_core.specs.declared.civil.date.Date.{Date}
use Rattle.class_plan.specs.declared.schedules.Unit.{Unit as TimeUnit}
use Rattle.class_plan.specs.declared.schedules.Unit.TheVariants.{Days, Months, Years}
use Rattle.class_plan.specs.declared.schedules.Schedule.{Schedule}
use Rattle.class_plan.specs.declared.schedules.Schedule.TheVariants.{Permanent, After}
use Rattle.class_plan.specs.Plans.{Listing, schedule_at}

-- a capture day: one of the years 1970 to 2199
abbrev pub IsCaptureDay : Date → Type 0
IsCaptureDay d = IsBetween (pos 1970) (pos 2199) d.year

-- the months from January of the year 0 to n months after the date's
abbrev pub months_of : Date → ℕ → ℕ
months_of d n = unsigned_abs d.year * 12 + (d.month - 1) + n

-- n months later: that year and month, and the day, cut to the month's last
pub record IsMonthsAfter (d : Date) (n : ℕ) (e : Date) : Type 0 where
  pub year : e.year ≡ pos (months_of d n / 12)
  pub month : e.month ≡ months_of d n % 12 + 1
  pub day : e.day ≡ min d.day (days_in_month e.year e.month)

-- n years later: the same month of that year, and the day, cut to the month's last
pub record IsYearsAfter (d : Date) (n : ℕ) (e : Date) : Type 0 where
  pub year : e.year ≡ d.year +ℤ pos n
  pub month : e.month ≡ d.month
  pub day : e.day ≡ min d.day (days_in_month e.year e.month)

-- a period later: days are added to the day number, and months and years to year and month with
-- the day cut
abbrev pub IsPeriodAfter : Date → ℕ → TimeUnit → Date → Type 0
IsPeriodAfter d n Days e = epoch_day e ≡ epoch_day d +ℤ pos n
IsPeriodAfter d n Months e = IsMonthsAfter d n e
IsPeriodAfter d n Years e = IsYearsAfter d n e

-- 31 December of the date's year
pub record IsYearEnd (d e : Date) : Type 0 where
  pub year : e.year ≡ d.year
  pub month : e.month ≡ 12
  pub day : e.day ≡ 31

-- 31 December of the year in which the date a period later lies
pub record IsYearEndAfter (d : Date) (n : ℕ) (u : TimeUnit) (e : Date) : Type 0 where
  pub date : Date
  pub period : IsPeriodAfter d n u date
  pub year_end : IsYearEnd date e

-- the due date of a capture day: the date a period later, or 31 December of that date's year where
-- the schedule names the year's end; a permanent schedule has none
abbrev pub IsDue : Date → Schedule → Option Date → Type 0
IsDue d Permanent None = Unit {0}
IsDue d Permanent (Some e) = ⊥
IsDue d (After n u a y) None = ⊥
IsDue d (After n u a false) (Some e) = IsPeriodAfter d n u e
IsDue d (After n u a true) (Some e) = IsYearEndAfter d n u e

-- the first date comes before the second, by year, then by month, then by day
abbrev pub IsEarlier : Date → Date → Type 0
IsEarlier a b = (a.year <ℤ b.year) ⊎
    ((a.year ≡ b.year) × ((a.month < b.month) ⊎ ((a.month ≡ b.month) × (a.day < b.day))))

-- neither is a date, or both have the same year, month and day
abbrev pub IsSameDay : Option Date → Option Date → Type 0
IsSameDay None None = Unit {0}
IsSameDay (Some a) (Some b) = (a.year ≡ b.year) × (a.month ≡ b.month) × (a.day ≡ b.day)
IsSameDay None (Some b) = ⊥
IsSameDay (Some a) None = ⊥

-- a date after a capture day, whose day number is one of 1970 to 9999
abbrev pub IsLater : Date → Date → Type 0
IsLater d e = IsEarlier d e × (epoch_day d <ℤ epoch_day e) × IsBetween (pos 0) (pos 2932896) (epoch_day e)

-- the due date of a path: that of its schedule, and none where the path is no class
abbrev pub IsDueOf : Listing → List ℕ → Date → Option Date → Type 0
IsDueOf p q d r = MatchOption (schedule_at p q) (r ≡ None) (λ s. IsDue d s r)
