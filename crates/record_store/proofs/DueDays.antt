-- The due day of a capture day is one of 1970 to 9999.
use Rattle.std.proofs.Common.{◌≡◌, ℕ, zero, suc, ◌+◌, ◌-◌, ◌*◌, ◌/◌, ◌%◌, ◌≤◌, inl, inr, min, nat_lt, true, false}
use Rattle.std.proofs.Common.{refl, arith, ℤ, pos, negsuc, ◌≤ℤ◌, unsigned_abs, List, Option, Some, None}
use Rattle.std.proofs.Common.{option_and_then, unwrap_or}
use Rattle.std.proofs.lemmas.Bool.{cases_Bool}
use Rattle.std.proofs.lemmas.Bool.Decides.{nat_tests}
use Rattle.jiff.specs.Words.{epoch_day, days_in_month, days_in_year}
use Rattle.jiff_core.specs.declared.civil.date.Date.{Date}
use Rattle.jiff_core.specs.Calendar.{day_count}
use Rattle.jiff_core.proofs.SignedLemmas.{signed_arith}
use Rattle.jiff_core.proofs.CalendarLemmas.{days_from_civil-day_count, days_in_month_bounds, days_in_year_bounds, day_count-lt_year}
use Rattle.jiff_core.proofs.MarchLemmas.{day_count-early}
use Rattle.jiff_core.proofs.DateLemmas.{epoch_day_range, civil as date_civil}
use Rattle.class_plan.specs.declared.schedules.Unit.{Unit as TimeUnit}
use Rattle.class_plan.specs.declared.schedules.Unit.TheVariants.{Days, Months, Years}
use Rattle.class_plan.specs.declared.schedules.Schedule.{Schedule}
use Rattle.class_plan.specs.declared.schedules.Schedule.TheVariants.{Permanent, After}
use Rattle.class_plan.specs.Schedules.{IsInRange, IsInRangeIfAny, most}
use Rattle.class_plan.specs.Plans.{Listing, IsPlan, schedule_at}
use Rattle.class_plan.specs.Calendar.{Civil, civil, in_year, from_year, number_of, day_within_month, period_after, last_of_year, due_by, due_on}
use Rattle.class_plan.proofs.Due.{from_zero}
use Rattle.class_plan.proofs.Ranges.{schedule-in_range}

-- ---- the date of a day number

-- a date of the years from the first to the last of these
record IsRough (c : Civil) (first last : ℕ) : Type 0 where
  pub year : (first ≤ c.year) × (c.year ≤ last)
  pub month : (1 ≤ c.month) × (c.month ≤ 12)
  pub day : 1 ≤ c.day

wider : (c : Civil) (first last low high : ℕ) → low ≤ first → last ≤ high → IsRough c first last → IsRough c low high
wider c first last low high down up h = record { year = (omega (arith, h.year), omega (arith, h.year)); month = h.month; day = h.day }

in_year_rough : (k y m n : ℕ) → 1 ≤ m → m + k ≤ 12 → IsRough (in_year k y m n) y y
in_year_rough zero y m n one few = record { year = (omega arith, omega arith); month = (one, omega arith); day = omega arith }
in_year_rough (suc k) y m n one few = elim (cases_Bool (nat_lt n (days_in_month (pos y) m))) [
  | inl here ↦ rw here (record { year = (omega arith, omega arith); month = (one, omega arith); day = omega arith })
  | inr later ↦ rw later (in_year_rough k y (m + 1) (n - days_in_month (pos y) m) (omega arith) (omega arith))
]

from_year_rough : (k y n : ℕ) → IsRough (from_year k y n) y (y + n / 365)
from_year_rough zero y n =
    wider (in_year 11 y 1 n) y y y (y + n / 365) (omega arith) (omega arith)
    (in_year_rough 11 y 1 n (omega arith) (omega arith))
from_year_rough (suc k) y n = elim (cases_Bool (nat_lt n (days_in_year (pos y)))) [
  | inl here ↦ rw here (wider (in_year 11 y 1 n) y y y (y + n / 365) (omega arith) (omega arith) (in_year_rough 11 y 1 n (omega arith) (omega arith)))
  | inr later ↦
      let whole : days_in_year (pos y) ≤ n = grind (arith, nat_tests) in
      let year = days_in_year_bounds (pos y) in
      let fewer : y + 1 + (n - days_in_year (pos y)) / 365 ≤ y + n / 365 = omega (arith, whole, year.1) in
      rw later (wider (from_year k (y + 1) (n - days_in_year (pos y))) (y + 1)
      (y + 1 + (n - days_in_year (pos y)) / 365) y (y + n / 365) (omega arith) fewer
      (from_year_rough k (y + 1) (n - days_in_year (pos y))))
]

civil_rough : (n : ℕ) → IsRough (civil n) 1970 (1970 + n / 365)
civil_rough n = from_year_rough 8029 1970 n

-- ---- the number of a date

abs_upto : (z : ℤ) (n : ℕ) → pos 0 ≤ℤ z → z ≤ℤ pos n → unsigned_abs z ≤ n
abs_upto (pos m) n low high = omega (arith, signed_arith, high)
abs_upto (negsuc m) n low high = absurd (omega (arith, signed_arith, low))

abbrev date_of : (y m d : ℕ) → 1970 ≤ y → y ≤ 9999 → (1 ≤ m) × (m ≤ 12) → (1 ≤ d) × (d ≤ days_in_month (pos y) m) → Date
date_of y m d low high month day =
    record {
      year = pos y;
      month = m;
      day = d;
      year_in = (omega (arith, signed_arith), omega (arith, signed_arith));
      month_in = month;
      day_in = day;
    }

number_small : (y m d : ℕ) → 1970 ≤ y → y ≤ 9999 → (1 ≤ m) × (m ≤ 12) → (1 ≤ d) × (d ≤ days_in_month (pos y) m)
    → number_of (record { year = y; month = m; day = d }) ≤ 2932896
number_small y m d low high month day =
    let e = date_of y m d low high month day in
    abs_upto (epoch_day e) 2932896 (from_zero e (omega (arith, signed_arith))) (epoch_day_range e).1

day_count-4000 : day_count (pos 4000) 1 1 ≡ 5_113_395
day_count-4000 = day_count-early (pos 4000) 13999 1 1 refl (omega arith) (omega arith) (omega arith)

number_before_4000 : (y m d : ℕ) → 1970 ≤ y → y ≤ 3999 → (1 ≤ m) × (m ≤ 12) → (1 ≤ d) × (d ≤ days_in_month (pos y) m)
    → number_of (record { year = y; month = m; day = d }) ≤ 741441
number_before_4000 y m d low high month day =
    let e = date_of y m d low (omega arith) month day in
    let below = day_count-lt_year (pos y) m d (pos 4000) 1 1 (date_civil e) (omega arith) (omega (arith, signed_arith)) in
    let counted = days_from_civil-day_count (pos y) m d in
    abs_upto (epoch_day e) 741441 (from_zero e (omega (arith, signed_arith))) (omega (arith, signed_arith, day_count-4000, below, counted))

within_small : (y m d : ℕ) → 1970 ≤ y → y ≤ 3999 → (1 ≤ m) × (m ≤ 12) → 1 ≤ d → number_of (day_within_month y m d) ≤ 741441
within_small y m d low high month day =
    let long = days_in_month_bounds (pos y) m in
    number_before_4000 y m (min d (days_in_month (pos y) m)) low high month (omega (arith, day, long), omega arith)

-- ---- the due day

period_small : (d n : ℕ) (u : TimeUnit) → d ≤ 84005 → n ≤ most u → period_after d n u ≤ 741441
period_small d n Days low few = omega arith
period_small d n Months low few =
    let c = civil_rough d in
    let at = (civil d).year * 12 + ((civil d).month - 1) + n in
    within_small (at / 12) (at % 12 + 1) (civil d).day (omega (arith, c.year)) (omega (arith, c.year, c.month)) (omega arith, omega arith) c.day
period_small d n Years low few =
    let c = civil_rough d in
    within_small ((civil d).year + n) (civil d).month (civil d).day (omega (arith, c.year)) (omega (arith, c.year)) c.month c.day

year_end_small : (n : ℕ) → n ≤ 741441 → number_of (last_of_year (civil n)) ≤ 2932896
year_end_small n low =
    let c = civil_rough n in
    number_small (civil n).year 12 31 c.year.0 (omega (arith, c.year)) (omega arith, omega arith) (omega arith, omega arith)

due_by_small : (d : ℕ) (s : Schedule) → d ≤ 84005 → IsInRange s → unwrap_or (due_by d s) 0 ≤ 2932896
due_by_small d Permanent low range = omega arith
due_by_small d (After n u a false) low range = omega (arith, period_small d n u low range.1)
due_by_small d (After n u a true) low range = year_end_small (period_after d n u) (period_small d n u low range.1)

-- THE DUE DAY by a plan, or 0, is not after 9999-12-31
pub due_small : (p : Listing) (q : List ℕ) (d : ℕ) → IsPlan p → d ≤ 84005 → unwrap_or (due_on p q d) 0 ≤ 2932896
due_small p q d plan low = go (schedule_at p q) (schedule-in_range p plan q)
  where
    go : (o : Option Schedule) → IsInRangeIfAny o → unwrap_or (option_and_then (due_by d) o) 0 ≤ 2932896
    go None range = omega arith
    go (Some s) range = due_by_small d s low range
