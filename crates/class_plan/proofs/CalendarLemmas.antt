-- The days and due days that are counted by number are those of the calendar.
use Rattle.std.proofs.Common.{◌≡◌, ℕ, zero, suc, ◌+◌, ◌-◌, ◌/◌, ◌%◌, ◌≤◌, inl, inr, min, nat_lt, true, false, refl, sym, ap, subst, ◌∙◌, arith, ℤ}
use Rattle.std.proofs.Common.{pos, negsuc, ◌+ℤ◌, ◌≤ℤ◌, unsigned_abs, List, Option, Some, None, MatchOption, option_map, option_and_then}
use Rattle.std.proofs.lemmas.Bool.{cases_order}
use Rattle.std.proofs.lemmas.Bool.Decides.{nat_tests}
use Rattle.class_plan.proofs.Days.{year_pos}
use Rattle.jiff.specs.Words.{epoch_day, days_in_month, days_in_year}
use Rattle.jiff_core.specs.declared.civil.date.Date.{Date}
use Rattle.jiff_core.specs.Calendar.{day_count, days_from_civil, IsYear, IsCivilDate}
use Rattle.jiff_core.proofs.SignedLemmas.{signed_arith}
use Rattle.jiff_core.proofs.CalendarLemmas.{day_count-epoch, days_from_civil-day_count, days_in_month_bounds, day_count-day, day_count-next_month}
use Rattle.jiff_core.proofs.CalendarLemmas.{day_count-next_year, day_count-later_year, day_count-lt_month, day_count-day_of_year, day_of_year_bound}
use Rattle.jiff_core.proofs.DateLemmas.{civil as date_civil}
use Rattle.class_plan.specs.declared.schedules.Unit.{Unit as TimeUnit}
use Rattle.class_plan.specs.declared.schedules.Unit.TheVariants.{Days, Months, Years}
use Rattle.class_plan.specs.declared.schedules.Schedule.{Schedule}
use Rattle.class_plan.specs.declared.schedules.Schedule.TheVariants.{Permanent, After}
use Rattle.class_plan.specs.Schedules.{IsInRange, IsInRangeIfAny}
use Rattle.class_plan.specs.Dates.{IsCaptureDay, IsPeriodAfter, IsYearEnd, IsEarlier, IsDue, IsDueOf, months_of}
use Rattle.class_plan.specs.Plans.{Listing, IsPlan, schedule_at}
use Rattle.class_plan.specs.Calendar.{Civil, civil, in_year, from_year, number_of, number_of_day, period_after}
use Rattle.class_plan.specs.Calendar.{last_of_year, due_by, due_on, months_after, years_after}
use Rattle.class_plan.proofs.Capture.{number-from_capture}
use Rattle.class_plan.proofs.Due.{period-later}
use Rattle.class_plan.proofs.Ranges.{schedule-in_range}

first_of_month : (y m d : ℕ) → IsCivilDate (pos y) m d → IsCivilDate (pos y) m 1
first_of_month y m d h = (h.0, h.1, (omega arith, omega (arith, days_in_month_bounds (pos y) m)))

-- a later month of a year begins no earlier
le_month : (y m later d : ℕ) → IsYear (pos y) → 1 ≤ m → m ≤ later → later ≤ 12 → 1 ≤ d → day_count (pos y) m 1 ≤ day_count (pos y) later d
le_month y m later d year one le twelve some = elim (cases_order m later) [
  | inr (inl less) ↦
      omega (
        arith,
        day_count-lt_month (pos y) m 1 later d (
          year,
          (omega arith, omega arith),
          (omega arith, omega (arith, days_in_month_bounds (pos y) m)),
        ) some less,
      )
  | inl same ↦ omega (arith, day_count-day (pos y) m d 1 some (omega arith), ap (λ k. day_count (pos y) k d) same)
  | inr (inr more) ↦ absurd (omega (arith, more))
]

in_year_is : (k y m r later d : ℕ) → IsCivilDate (pos y) later d → 1 ≤ m → m ≤ later → later ≤ m + k
    → day_count (pos y) later d ≡ day_count (pos y) m 1 + r
    → in_year k y m r ≡ record { year = y; month = later; day = d }
in_year_is zero y m r later d civil one le few counted =
    let month : m ≡ later = omega arith in
    let day : r + 1 ≡ d = omega (arith, day_count-day (pos y) later d 1 civil.2.0 (omega arith), ap (λ k. day_count (pos y) k 1) month) in
    λ i. record { year = y; month = month i; day = day i }
in_year_is (suc k) y m r later d civil one le few counted = elim (cases_order m later) [
  | inr (inl less) ↦
      let next = day_count-next_month (pos y) m one in
      let past = le_month y (m + 1) later d civil.0 (omega arith) (omega (arith, less)) civil.1.1 civil.2.0 in
      let test : nat_lt r (days_in_month (pos y) m) ≡ false = grind (arith, nat_tests) in
      rw test (in_year_is k y (m + 1) (r - days_in_month (pos y) m) later d civil (omega arith) (omega (arith, less)) (omega arith) (omega arith))
  | inl same ↦
      let day : r + 1 ≡ d = omega (arith, day_count-day (pos y) later d 1 civil.2.0 (omega arith), ap (λ k. day_count (pos y) k 1) same) in
      let short : d ≤ days_in_month (pos y) m = omega (arith, civil.2.1, ap (λ k. days_in_month (pos y) k) same) in
      let test : nat_lt r (days_in_month (pos y) m) ≡ true = grind (arith, nat_tests) in
      rw test (λ i. record { year = y; month = same i; day = day i })
  | inr (inr more) ↦ absurd (omega (arith, more))
]

from_year_is : (k y n later m d : ℕ) → IsCivilDate (pos later) m d → y ≤ later → later ≤ y + k
    → day_count (pos later) m d ≡ day_count (pos y) 1 1 + n
    → from_year k y n ≡ record { year = later; month = m; day = d }
from_year_is zero y n later m d civil le few counted =
    let same : later ≡ y = omega arith in
    let here = subst (λ z. IsCivilDate (pos z) m d) same civil in
    let count = subst (λ z. day_count (pos z) m d ≡ day_count (pos y) 1 1 + n) same counted in
    in_year_is 11 y 1 n m d here (omega arith) civil.1.0 (omega (arith, civil.1.1)) count
    ∙ ap (λ z. record { year = z; month = m; day = d }) (sym same)
from_year_is (suc k) y n later m d civil le few counted = elim (cases_order y later) [
  | inr (inl less) ↦
      let next = day_count-next_year (pos y) (pos (y + 1)) (omega (arith, signed_arith)) (omega (arith, signed_arith)) in
      let past = day_count-later_year (pos y) (pos later) (omega (arith, signed_arith)) (omega (arith, signed_arith, less)) in
      let first = le_month later 1 m d civil.0 (omega arith) civil.1.0 civil.1.1 civil.2.0 in
      let test : nat_lt n (days_in_year (pos y)) ≡ false = grind (arith, nat_tests) in
      rw test (from_year_is k (y + 1) (n - days_in_year (pos y)) later m d civil (omega (arith, less)) (omega arith) (omega arith))
  | inl same ↦
      let here = subst (λ z. IsCivilDate (pos z) m d) (sym same) civil in
      let count = subst (λ z. day_count (pos z) m d ≡ day_count (pos y) 1 1 + n) (sym same) counted in
      let placed = day_count-day_of_year (pos y) m d civil.2.0 in
      let bound = day_of_year_bound (pos y) m d here in
      let test : nat_lt n (days_in_year (pos y)) ≡ true = grind (arith, nat_tests) in
      rw test (in_year_is 11 y 1 n m d here (omega arith) civil.1.0 (omega (arith, civil.1.1)) count
      ∙ ap (λ z. record { year = z; month = m; day = d }) same)
  | inr (inr more) ↦ absurd (omega (arith, more))
]

abbrev parts : Date → Civil
parts d = record { year = unsigned_abs d.year; month = d.month; day = d.day }

-- the date with a day number is that of the calendar
pub civil_is : (d : Date) (n : ℕ) → pos 1970 ≤ℤ d.year → epoch_day d ≡ pos n → civil n ≡ parts d
civil_is d n year is =
    let same = year_pos d.year year in
    let here : IsCivilDate (pos (unsigned_abs d.year)) d.month d.day = subst (λ z. IsCivilDate z d.month d.day) same (date_civil d) in
    let counted = days_from_civil-day_count d.year d.month d.day in
    let count : day_count d.year d.month d.day ≡ day_count (pos 1970) 1 1 + n = omega (arith, signed_arith, day_count-epoch, counted, is) in
    let year_in : d.year ≤ℤ pos 9999 = d.year_in.1 in
    from_year_is 8029 1970 n (unsigned_abs d.year) d.month d.day here (omega (arith, signed_arith, same, year))
    (omega (arith, signed_arith, same, year_in)) (ap (λ z. day_count z d.month d.day) (sym same) ∙ count)

-- the period's end has the number that the definition counts
period_is : (d : Date) (n k : ℕ) (u : TimeUnit) (e : Date) → pos 1970 ≤ℤ d.year → epoch_day d ≡ pos n
    → IsPeriodAfter d k u e → number_of_day e ≡ period_after n k u
period_is d n k Days e year is h = ap unsigned_abs (h ∙ ap (λ z. z +ℤ pos k) is)
period_is d n k Months e year is h =
    let from : period_after n k Months ≡ number_of (months_after (parts d) k) = ap (λ c. number_of (months_after c k)) (civil_is d n year is) in
    let day : e.day ≡ min d.day (days_in_month (pos (months_of d k / 12)) (months_of d k % 12 + 1)) = h.day
    ∙ (λ i. min d.day (days_in_month (h.year i) (h.month i))) in
    sym (from ∙ (λ i. unsigned_abs (days_from_civil (sym h.year i) (sym h.month i) (sym day i))))
period_is d n k Years e year is h =
    let from : period_after n k Years ≡ number_of (years_after (parts d) k) = ap (λ c. number_of (years_after c k)) (civil_is d n year is) in
    let at : e.year ≡ pos (unsigned_abs d.year + k) = h.year ∙ ap (λ z. z +ℤ pos k) (year_pos d.year year) in
    let day : e.day ≡ min d.day (days_in_month (pos (unsigned_abs d.year + k)) d.month) = h.day
    ∙ (λ i. min d.day (days_in_month (at i) (h.month i))) in
    sym (from ∙ (λ i. unsigned_abs (days_from_civil (sym at i) (sym h.month i) (sym day i))))

-- a date after a capture day is not before 1970
later_year : (d e : Date) → IsCaptureDay d → IsEarlier d e → pos 1970 ≤ℤ e.year
later_year d e day (inl less) = let low = day.0 in omega (arith, signed_arith)
later_year d e day (inr (same, less)) = let low = day.0 in omega (arith, signed_arith)

number_pos : (z : ℤ) → pos 0 ≤ℤ z → z ≡ pos (unsigned_abs z)
number_pos (pos n) h = refl
number_pos (negsuc n) h = absurd (omega (arith, signed_arith))

-- the last day of the year of a date that is not before 1970
year_end_is : (e f : Date) → pos 1970 ≤ℤ e.year → pos 0 ≤ℤ epoch_day e → IsYearEnd e f
    → number_of_day f ≡ number_of (last_of_year (civil (number_of_day e)))
year_end_is e f year low h =
    let same = civil_is e (number_of_day e) year (number_pos (epoch_day e) low) in
    let at : f.year ≡ pos (unsigned_abs e.year) = h.year ∙ year_pos e.year year in
    (λ i. unsigned_abs (days_from_civil (at i) (h.month i) (h.day i))) ∙ sym (ap (λ c. number_of (last_of_year c)) same)

-- the due date by a schedule has the number that the definition counts
pub due_by_is : (d : Date) (n : ℕ) (s : Schedule) (r : Option Date) → IsCaptureDay d → IsInRange s → epoch_day d ≡ pos n
    → IsDue d s r → option_map number_of_day r ≡ due_by n s
due_by_is d n Permanent None day range is h = refl
due_by_is d n Permanent (Some e) day range is h = absurd h
due_by_is d n (After k u a y) None day range is h = absurd h
due_by_is d n (After k u a false) (Some e) day range is h = ap (λ m. Some m) (period_is d n k u e day.0 is h)
due_by_is d n (After k u a true) (Some e) day range is h =
    let later = period-later d k u h.date day range.0 h.period in
    let here = year_end_is h.date e (later_year d h.date day later.0) later.2.0 h.year_end in
    let number = period_is d n k u h.date day.0 is h.period in
    ap (λ m. Some m) (here ∙ ap (λ m. number_of (last_of_year (civil m))) number)

-- the same for a path
pub due_on_is : (p : Listing) (q : List ℕ) (d : Date) (n : ℕ) (r : Option Date) → IsPlan p → IsCaptureDay d
    → epoch_day d ≡ pos n → IsDueOf p q d r → option_map number_of_day r ≡ due_on p q n
due_on_is p q d n r plan day is h = go (schedule_at p q) (schedule-in_range p plan q) h
  where
    go : (o : Option Schedule) → IsInRangeIfAny o → MatchOption o (r ≡ None) (λ s. IsDue d s r)
        → option_map number_of_day r ≡ option_and_then (due_by n) o
    go None range h = ap (option_map number_of_day) h
    go (Some s) range h = due_by_is d n s r day range is h

pub capture_number : (d : Date) → IsCaptureDay d → epoch_day d ≡ pos (number_of_day d)
capture_number d day = number_pos (epoch_day d) (number-from_capture d day).0
