use Rattle.std.proofs.Common.{◌≡◌, FitsSigned, w8, w16, w64, arith, ◌∙◌, ap, pos}
use Rattle.std.specs.Prelude.{unsigned_abs}
use Rattle.std.proofs.lemmas.Int.{to_z-of_z, to_z_pos}
use Rattle.jiff.specs.Words.{epoch_day}
use Rattle.record_history.proofs.DayLemmas.{parts_are, year_fits, month_fits, day_fits}
use Rattle.record_history.proofs.dates.civil_of.Goals as goal

pub returns-clause-civil : goal.returns-clause-civil
returns-clause-civil c =
    let date = c.unwrap-date.result in
    let number : epoch_day date ≡ pos c.args.day = (rw c.unwrap-date.ensures at c.date_of.ensures.date).1
    ∙ to_z_pos w64 c.args.day (omega (arith, c.requires)) in
    let year_in : FitsSigned w16 c.year.result = year_fits date c.year.result c.year.ensures in
    let month_in : FitsSigned w8 c.month.result = month_fits date c.month.result c.month.ensures in
    let day_in : FitsSigned w8 c.day.result = day_fits date c.day.result c.day.ensures in
    let year : c.unsigned_abs-year.result ≡ unsigned_abs date.year = c.unsigned_abs-year.ensures.value
    ∙ ap unsigned_abs (to_z-of_z w16 c.year.result year_in ∙ c.year.ensures) in
    let month : c.from.result ≡ date.month = c.from.ensures ∙ c.unsigned_abs-month.ensures.value
    ∙ ap unsigned_abs (to_z-of_z w8 c.month.result month_in ∙ c.month.ensures) in
    let day : c.from-2.result ≡ date.day = c.from-2.ensures ∙ c.unsigned_abs-day.ensures.value
    ∙ ap unsigned_abs (to_z-of_z w8 c.day.result day_in ∙ c.day.ensures) in
    parts_are date c.args.day _ _ _ number year month day
