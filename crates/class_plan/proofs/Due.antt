-- Due dates: which day they are, and that they come after the capture day.
use Rattle.std.proofs.Common.{◌≡◌, ℕ, ◌/◌, ◌<◌, ◌≤◌, ◌⊎◌, Bool, true, false, subst, inl, inr, pos, ◌+ℤ◌, ◌≤ℤ◌, ◌<ℤ◌}
use Rattle.std.proofs.Common.{Option, Some, None, unsigned_abs, arith, refl, sym, ◌∙◌}
use Rattle.jiff.specs.Words.{epoch_day}
use Rattle.jiff_core.specs.declared.civil.date.Date.{Date}
use Rattle.jiff_core.proofs.SignedLemmas.{signed_arith}
use Rattle.std.proofs.lemmas.Bool.{cases_order}
use Rattle.std.proofs.lemmas.Int.{by_lt_z}
use Rattle.jiff_core.specs.Calendar.{IsCivilDate}
use Rattle.jiff_core.proofs.CalendarLemmas.{days_from_civil-day_count, day_count-lt_year, days_in_month_bounds}
use Rattle.jiff_core.proofs.IsoWeekLemmas.{epoch_day-year}
use Rattle.jiff_core.proofs.DateLemmas.{epoch_day-lt, epoch_day_range, epoch_day_injective, cases_date}
use Rattle.class_plan.specs.declared.schedules.Unit.{Unit as TimeUnit}
use Rattle.class_plan.specs.declared.schedules.Unit.TheVariants.{Days, Months, Years}
use Rattle.class_plan.specs.declared.schedules.Action.{Action}
use Rattle.class_plan.specs.declared.schedules.Schedule.{Schedule}
use Rattle.class_plan.specs.declared.schedules.Schedule.TheVariants.{Permanent, After}
use Rattle.class_plan.specs.Schedules.{IsInRange}
use Rattle.class_plan.specs.Dates.{IsCaptureDay, IsDue, IsEarlier, IsLater, IsSameDay, IsMonthsAfter, IsYearsAfter}
use Rattle.class_plan.specs.Dates.{IsPeriodAfter, IsYearEnd, IsYearEndAfter, months_of}
use Rattle.class_plan.proofs.Days.{days_from_civil-zero, year_pos}

-- a smaller day number is that of an earlier date
pub earlier-from_number : (d e : Date) → epoch_day d <ℤ epoch_day e → IsEarlier d e
earlier-from_number d e h = elim (cases_date d e) [
  | inl lt ↦ lt
  | inr (inl gt) ↦ absurd (omega (arith, signed_arith, epoch_day-lt e d gt))
  | inr (inr same) ↦ absurd (let x : epoch_day d ≡ epoch_day e = rw (same.0, same.1, same.2) in omega (arith, signed_arith))
]

months_only : (d : Date) (n : ℕ) (a b : Date) → IsMonthsAfter d n a → IsMonthsAfter d n b → (a.year ≡ b.year) × (a.month ≡ b.month) × (a.day ≡ b.day)
months_only d n a b h k =
    let year : a.year ≡ b.year = h.year ∙ sym k.year in
    let month : a.month ≡ b.month = h.month ∙ sym k.month in
    (year, month, h.day ∙ rw (year, month) (sym k.day))

years_only : (d : Date) (n : ℕ) (a b : Date) → IsYearsAfter d n a → IsYearsAfter d n b → (a.year ≡ b.year) × (a.month ≡ b.month) × (a.day ≡ b.day)
years_only d n a b h k =
    let year : a.year ≡ b.year = h.year ∙ sym k.year in
    let month : a.month ≡ b.month = h.month ∙ sym k.month in
    (year, month, h.day ∙ rw (year, month) (sym k.day))

period_only : (d : Date) (n : ℕ) (u : TimeUnit) (a b : Date) → IsPeriodAfter d n u a → IsPeriodAfter d n u b
    → (a.year ≡ b.year) × (a.month ≡ b.month) × (a.day ≡ b.day)
period_only d n Days a b h k = epoch_day_injective a b (h ∙ sym k)
period_only d n Months a b h k = months_only d n a b h k
period_only d n Years a b h k = years_only d n a b h k

year_end_only : (d : Date) (n : ℕ) (u : TimeUnit) (a b : Date) → IsYearEndAfter d n u a → IsYearEndAfter d n u b
    → (a.year ≡ b.year) × (a.month ≡ b.month) × (a.day ≡ b.day)
year_end_only d n u a b h k =
    let same = period_only d n u h.date k.date h.period k.period in
    (h.year_end.year ∙ same.0 ∙ sym k.year_end.year, h.year_end.month ∙ sym k.year_end.month, h.year_end.day ∙ sym k.year_end.day)

-- a day and a schedule have one due date
pub due-only : (d : Date) (s : Schedule) (a b : Option Date) → IsDue d s a → IsDue d s b → IsSameDay a b
due-only d Permanent None None h k = tt
due-only d Permanent (Some a) b h k = absurd h
due-only d Permanent None (Some b) h k = absurd k
due-only d (After n u x false) (Some a) (Some b) h k = period_only d n u a b h k
due-only d (After n u x true) (Some a) (Some b) h k = year_end_only d n u a b h k
due-only d (After n u x y) None b h k = absurd h
due-only d (After n u x y) (Some a) None h k = absurd k

months_earlier : (d : Date) (n : ℕ) (e : Date) → IsCaptureDay d → 1 ≤ n → IsMonthsAfter d n e → IsEarlier d e
months_earlier d n e day some h =
    let year = year_pos d.year day.0 in
    elim (cases_order (unsigned_abs d.year) (months_of d n / 12)) [
      | inl same ↦ inr (omega (arith, signed_arith, h.year, year), inl (omega (arith, h.month, d.month_in)))
      | inr (inl lt) ↦ inl (omega (arith, signed_arith, h.year, year))
      | inr (inr gt) ↦ absurd (omega arith)
    ]

first_day : IsCivilDate (pos 1970) 1 1
first_day = ((omega (arith, signed_arith), omega (arith, signed_arith)), (omega arith, omega arith), (omega arith, omega arith))

after_first_year : (d : Date) → pos 1970 <ℤ d.year → pos 0 ≤ℤ epoch_day d
after_first_year d lt =
    let zero = days_from_civil-zero in
    let below = day_count-lt_year (pos 1970) 1 1 d.year d.month d.day first_day d.day_in.0 lt in
    omega (arith, signed_arith, days_from_civil-day_count (pos 1970) 1 1, days_from_civil-day_count d.year d.month d.day)

in_first_year : (d : Date) → d.year ≡ pos 1970 → pos 0 ≤ℤ epoch_day d
in_first_year d year =
    let start = rw (year, days_from_civil-zero) at (epoch_day-year d (d.year +ℤ pos 1) refl).0 in
    rw year start

-- the day numbers of 1970 and later are not negative
pub from_zero : (d : Date) → pos 1970 ≤ℤ d.year → pos 0 ≤ℤ epoch_day d
from_zero d h = by_lt_z (pos 1970) d.year (after_first_year d) (λ ge. in_first_year d (omega (arith, signed_arith)))

later_of : (d e : Date) → IsCaptureDay d → IsEarlier d e → IsLater d e
later_of d e day h =
    let less = epoch_day-lt d e h in
    let low = from_zero d day.0 in
    let range = epoch_day_range e in
    (h, less, (omega (arith, signed_arith), omega (arith, signed_arith)))

period_earlier : (d : Date) (n : ℕ) (u : TimeUnit) (e : Date) → IsCaptureDay d → 1 ≤ n → IsPeriodAfter d n u e → IsEarlier d e
period_earlier d n Days e day some h = earlier-from_number d e (omega (arith, signed_arith, h))
period_earlier d n Months e day some h = months_earlier d n e day some h
period_earlier d n Years e day some h = inl (omega (arith, signed_arith, h.year))

pub period-later : (d : Date) (n : ℕ) (u : TimeUnit) (e : Date) → IsCaptureDay d → 1 ≤ n → IsPeriodAfter d n u e → IsLater d e
period-later d n u e day some h = later_of d e day (period_earlier d n u e day some h)

-- what comes before a date comes before the last day of its year
in_same_year : (d e f : Date) → (d.month < e.month) ⊎ ((d.month ≡ e.month) × (d.day < e.day)) → IsYearEnd e f
    → (d.month < f.month) ⊎ ((d.month ≡ f.month) × (d.day < f.day))
in_same_year d e f (inl less) h = inl (omega (arith, h.month, e.month_in))
in_same_year d e f (inr (same, less)) h = elim (cases_order d.month 12) [
  | inl twelve ↦ inr (twelve ∙ sym h.month, omega (arith, h.day, e.day_in, days_in_month_bounds e.year e.month))
  | inr (inl less) ↦ inl (omega (arith, h.month))
  | inr (inr more) ↦ absurd (omega (arith, d.month_in))
]

before_year_end : (d e f : Date) → IsEarlier d e → IsYearEnd e f → IsEarlier d f
before_year_end d e f (inl less) h = inl (omega (arith, signed_arith, h.year))
before_year_end d e f (inr (same, less)) h = inr (same ∙ sym h.year, in_same_year d e f less h)

pub due-later : (d : Date) (s : Schedule) (e : Date) → IsCaptureDay d → IsInRange s → IsDue d s (Some e) → IsLater d e
due-later d Permanent e day range h = absurd h
due-later d (After n u x false) e day range h = period-later d n u e day range.0 h
due-later d (After n u x true) e day range h =
    later_of d e day (before_year_end d h.date e (period_earlier d n u h.date day range.0 h.period) h.year_end)

-- the date a period later is the due date of a schedule without the year's end
pub due-period : (d : Date) (s : Schedule) (n : ℕ) (u : TimeUnit) (x : Action) (y : Bool) (e f : Date)
    → s ≡ After n u x y → y ≡ false → IsPeriodAfter d n u e → f ≡ e → IsDue d s (Some f)
due-period d s n u x true e f is off h same = absurd (cc)
due-period d s n u x false e f is off h same = subst (λ z. IsDue d z (Some f)) (sym is) (subst (λ z. IsPeriodAfter d n u z) (sym same) h)

-- 31 December of that date's year is the due date of a schedule with the year's end
pub due-year_end : (d : Date) (s : Schedule) (n : ℕ) (u : TimeUnit) (x : Action) (y : Bool) (e f : Date)
    → s ≡ After n u x y → y ≡ true → IsPeriodAfter d n u e → IsYearEnd e f → IsDue d s (Some f)
due-year_end d s n u x true e f is on h end = subst (λ z. IsDue d z (Some f)) (sym is) (record { date = e; period = h; year_end = end })
due-year_end d s n u x false e f is on h end = absurd (cc)
