-- Day numbers of capture days and due dates.
use Rattle.std.proofs.Common.{◌≡◌, ℕ, ◌≤◌, ◌<◌, ℤ, pos, negsuc, ◌+ℤ◌, ◌≤ℤ◌, ◌<ℤ◌, arith, refl, ◌∙◌}
use Rattle.jiff.specs.Words.{epoch_day, IsEpochDay}
use Rattle.jiff_core.specs.declared.civil.date.Date.{Date}
use Rattle.jiff_core.specs.declared.span.Span.{Span}
use Rattle.jiff_core.specs.declared.unit.Unit.TheVariants.{Day}
use Rattle.jiff_core.specs.Span.{IsOnly}
use Rattle.jiff_core.specs.Calendar.{days_from_civil, day_count}
use Rattle.jiff_core.proofs.SignedLemmas.{signed_arith}
use Rattle.jiff_core.proofs.DateLemmas.{epoch_day_range, civil}
use Rattle.jiff_core.proofs.CalendarLemmas.{days_from_civil-day_count, day_count-lt_year}
use Rattle.jiff_core.proofs.MarchLemmas.{day_count-early}
use Rattle.jiff.proofs.SpanFacts.{date_add-days, can_add-days}
use Rattle.std.specs.Prelude.{unsigned_abs}
use Rattle.class_plan.specs.Dates.{months_of}
use Rattle.jiff_span.specs.Add.{date_add, CanAddToDate}

-- 1970-01-01 is the day 0
pub days_from_civil-zero : days_from_civil (pos 1970) 1 1 ≡ pos 0
unfolding days_from_civil
days_from_civil-zero = omega (arith, signed_arith)

-- a date with those parts has the day number 0
pub epoch_day-zero : (d : Date) → d.year ≡ pos 1970 → pos d.month ≡ pos 1 → pos d.day ≡ pos 1 → epoch_day d ≡ pos 0
epoch_day-zero d y m e =
    let month : d.month ≡ 1 = omega (arith, signed_arith) in
    let day : d.day ≡ 1 = omega (arith, signed_arith) in
    rw (y, month, day) days_from_civil-zero

-- adding a span of days, where the library has the day reached
pub days-added : (a r : Date) (n : ℤ) (s : Span) → IsOnly Day n s → (CanAddToDate a s → epoch_day r ≡ date_add a s)
    → IsEpochDay (epoch_day a +ℤ n) → epoch_day r ≡ epoch_day a +ℤ n
days-added a r n s only fits in_range = fits ((can_add-days a n s only).1 in_range) ∙ date_add-days a n s only

pub day_count-2200 : day_count (pos 2200) 1 1 ≡ 4_455_959
day_count-2200 = day_count-early (pos 2200) 12199 1 1 refl (omega arith) (omega arith) (omega arith)

-- a day before 2200 and up to 366,000 days more are in the library's range
pub days-in : (d : Date) (n : ℕ) → d.year ≤ℤ pos 2199 → n ≤ 366000 → IsEpochDay (epoch_day d +ℤ pos n)
days-in d n year count =
    let lt : d.year <ℤ pos 2200 = omega (arith, signed_arith) in
    let below = day_count-lt_year d.year d.month d.day (pos 2200) 1 1 (civil d) (omega arith) lt in
    let range = epoch_day_range d in
    let counted = days_from_civil-day_count d.year d.month d.day in
    let top = day_count-2200 in
    (omega (arith, signed_arith), omega (arith, signed_arith))

pub year_pos : (z : ℤ) → pos 1970 ≤ℤ z → z ≡ pos (unsigned_abs z)
year_pos (pos n) h = refl
year_pos (negsuc n) h = absurd (omega (arith, signed_arith))

abs-below : (z : ℤ) → z ≤ℤ pos 2199 → pos 1970 ≤ℤ z → unsigned_abs z ≤ 2199
abs-below (pos n) h k = omega (arith, signed_arith)
abs-below (negsuc n) h k = absurd (omega (arith, signed_arith))

pub months-below : (d : Date) (n : ℕ) → d.year ≤ℤ pos 2199 → pos 1970 ≤ℤ d.year → n ≤ 12000 → months_of d n < 38400
months-below d n high low count = let year = abs-below d.year high low in omega (arith, d.month_in)
