-- Capture days are the dates with the day numbers 0 to 84005.
use Rattle.std.proofs.Common.{◌≡◌, ◌≤◌, pos, ◌+ℤ◌, ◌≤ℤ◌, ◌<ℤ◌, arith, refl}
use Rattle.std.proofs.lemmas.Int.{by_lt_z}
use Rattle.jiff.specs.Words.{epoch_day, IsBetween}
use Rattle.jiff_core.specs.Calendar.{IsCivilDate}
use Rattle.jiff_core.specs.declared.civil.date.Date.{Date}
use Rattle.jiff_core.proofs.SignedLemmas.{signed_arith}
use Rattle.jiff_core.proofs.DateLemmas.{civil}
use Rattle.jiff_core.proofs.CalendarLemmas.{days_from_civil-day_count, day_count-lt_year, day_count-epoch}
use Rattle.jiff_core.proofs.IsoWeekLemmas.{epoch_day-year}
use Rattle.class_plan.specs.Dates.{IsCaptureDay}
use Rattle.class_plan.proofs.Due.{from_zero}
use Rattle.class_plan.proofs.Days.{day_count-2200}

new_year : IsCivilDate (pos 2200) 1 1
new_year = ((omega (arith, signed_arith), omega (arith, signed_arith)), (omega arith, omega arith), (omega arith, omega arith))

before_1970 : (d : Date) → d.year <ℤ pos 1970 → epoch_day d <ℤ pos 0
before_1970 d lt =
    let below = day_count-lt_year d.year d.month d.day (pos 1970) 1 1 (civil d) (omega arith) lt in
    let counted = days_from_civil-day_count d.year d.month d.day in
    let first = day_count-epoch in
    omega (arith, signed_arith)

past_2200 : (d : Date) → pos 2200 <ℤ d.year → pos 84005 <ℤ epoch_day d
past_2200 d lt =
    let below = day_count-lt_year (pos 2200) 1 1 d.year d.month d.day new_year d.day_in.0 lt in
    let counted = days_from_civil-day_count d.year d.month d.day in
    let top = day_count-2200 in
    omega (arith, signed_arith)

in_2200 : (d : Date) → d.year ≡ pos 2200 → pos 84005 <ℤ epoch_day d
in_2200 d year =
    let start = rw year at (epoch_day-year d (d.year +ℤ pos 1) refl).0 in
    let counted = days_from_civil-day_count (pos 2200) 1 1 in
    let top = day_count-2200 in
    rw year (omega (arith, signed_arith))

from_2200 : (d : Date) → pos 2199 <ℤ d.year → pos 84005 <ℤ epoch_day d
from_2200 d h = by_lt_z (pos 2200) d.year (past_2200 d) (λ le. in_2200 d (omega (arith, signed_arith)))

pub capture-from_number : (d : Date) → pos 0 ≤ℤ epoch_day d → epoch_day d ≤ℤ pos 84005 → IsCaptureDay d
capture-from_number d low high = (
  by_lt_z d.year (pos 1970) (λ lt. absurd (let x = before_1970 d lt in omega (arith, signed_arith))) (λ ge. ge),
  by_lt_z (pos 2199) d.year (λ gt. absurd (let x = from_2200 d gt in omega (arith, signed_arith))) (λ le. le),
)

pub number-from_capture : (d : Date) → IsCaptureDay d → IsBetween (pos 0) (pos 84005) (epoch_day d)
number-from_capture d h =
    let below = day_count-lt_year d.year d.month d.day (pos 2200) 1 1 (civil d) (omega arith) (let high = h.1 in omega (arith, signed_arith)) in
    let counted = days_from_civil-day_count d.year d.month d.day in
    let top = day_count-2200 in
    (from_zero d h.0, omega (arith, signed_arith))
