-- Adding months with the library.
use Rattle.std.proofs.Common.{◌≡◌, ℕ, ◌+◌, ◌*◌, ◌-◌, ◌/◌, ◌%◌, ◌≤◌, ℤ, pos, ◌+ℤ◌, ◌*ℤ◌, arith, ◌∙◌}
use Rattle.jiff.specs.Words.{epoch_day, IsEpochDay}
use Rattle.jiff_core.specs.declared.civil.date.Date.{Date}
use Rattle.jiff_core.specs.declared.span.Span.{Span}
use Rattle.jiff_core.specs.declared.unit.Unit.TheVariants.{Month, Hour, Minute, Second, Millisecond, Microsecond, Nanosecond}
use Rattle.jiff_core.specs.Span.{IsOnly, magnitude, span_months, span_days, clock_days}
use Rattle.jiff_core.proofs.SignedLemmas.{signed_arith}
use Rattle.jiff_core.proofs.DateLemmas.{epoch_day_range, epoch_day_injective}
use Rattle.jiff_span.specs.Add.{date_add, CanAddToDate}
use Rattle.jiff_span.specs.Months.{add_months, shifted_year, shifted_month, shifted_day, IsShiftable}
use Rattle.jiff_span.proofs.DifferenceLemmas.{signed_zero}
use Rattle.jiff_span.proofs.MonthLemmas.{shift_parts, shifted_civil}
use Rattle.std.specs.Prelude.{unsigned_abs}
use Rattle.class_plan.specs.Dates.{IsCaptureDay, IsMonthsAfter, months_of}
use Rattle.class_plan.proofs.Days.{months-below, year_pos}

-- a span of calendar units alone has no days of clock time
no_clock : (s : Span) → magnitude Hour s ≡ 0 → magnitude Minute s ≡ 0 → magnitude Second s ≡ 0
    → magnitude Millisecond s ≡ 0 → magnitude Microsecond s ≡ 0 → magnitude Nanosecond s ≡ 0 → clock_days s ≡ pos 0
no_clock s a b c d e f = signed_zero s.negative _ (omega arith)

date_add-months : (a : Date) (n : ℤ) (s : Span) → IsOnly Month n s → date_add a s ≡ add_months a n
date_add-months a n s h =
    let m : span_months s ≡ n = omega (arith, signed_arith, h.months) in
    let d : span_days s ≡ pos 0 = omega (arith, signed_arith, h.days) in
    let k : clock_days s ≡ pos 0 =
    no_clock s (h.others Hour (omega arith)) (h.others Minute (omega arith)) (h.others Second (omega arith))
    (h.others Millisecond (omega arith)) (h.others Microsecond (omega arith)) (h.others Nanosecond (omega arith)) in
    rw (m, d, k) (omega (arith, signed_arith))

-- the date a number of months later
shifted_date : (d : Date) (k : ℤ) → IsShiftable d k → Date
shifted_date d k h =
    let civil = shifted_civil d k h in
    record { year = shifted_year d k; month = shifted_month d k; day = shifted_day d k; year_in = civil.0; month_in = civil.1; day_in = civil.2 }

month_parts : (z : ℤ) (y m n : ℕ) → z ≡ pos y
    → (z *ℤ pos 12 +ℤ pos (m - 1)) +ℤ pos n
    ≡ pos ((y * 12 + (m - 1) + n) / 12) *ℤ pos 12 +ℤ pos ((y * 12 + (m - 1) + n) % 12 + 1 - 1)
month_parts z y m n e = rw e (omega (arith, signed_arith))

-- the year and month a number of months after a capture day
shifted_parts : (d : Date) (n : ℕ) → IsCaptureDay d → (shifted_year d (pos n) ≡ pos (months_of d n / 12))
    × (shifted_month d (pos n) ≡ months_of d n % 12 + 1)
shifted_parts d n day =
    let parts = month_parts d.year (unsigned_abs d.year) d.month n (year_pos d.year day.0) in
    shift_parts d (pos n) (pos (months_of d n / 12)) (months_of d n % 12 + 1) parts (omega arith) (omega arith)

pub months-added : (d r : Date) (n : ℕ) (s : Span) → IsCaptureDay d → n ≤ 12000 → IsOnly Month (pos n) s
    → (CanAddToDate d s → epoch_day r ≡ date_add d s) → IsMonthsAfter d n r
unfolding shifted_date
months-added d r n s day count only fits =
    let shifted = shifted_parts d n day in
    let below = months-below d n day.1 day.0 count in
    let year : IsShiftable d (pos n) = rw shifted.0 (omega (arith, signed_arith), omega (arith, signed_arith)) in
    let same = date_add-months d (pos n) s only in
    let months : span_months s ≡ pos n = omega (arith, signed_arith, only.months) in
    let in_range : IsEpochDay (date_add d s) = rw same (epoch_day_range (shifted_date d (pos n) year)) in
    let parts = epoch_day_injective r (shifted_date d (pos n) year) (fits (rw months year, in_range) ∙ same) in
    record { year = parts.0 ∙ shifted.0; month = parts.1 ∙ shifted.1; day = rw (parts.0, parts.1) parts.2 }
