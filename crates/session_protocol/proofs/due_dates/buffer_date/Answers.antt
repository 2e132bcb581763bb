use Rattle.std.proofs.Common.{◌≡◌, ◌++◌, ◌∙◌, sym, ap, codes, FitsSigned, w8, w16}
use Rattle.std.specs.Prelude.{unsigned_abs}
use Rattle.std.proofs.lemmas.Int.{to_z-of_z}
use Rattle.session_protocol.specs.Dates.{civil_octets}
use Rattle.session_protocol.proofs.Adding.{adds_same}
use Rattle.session_protocol.proofs.DayLemmas.{day_text, month_fits, day_fits, year_fits}
use Rattle.session_protocol.proofs.due_dates.buffer_date.Goals as goal

pub returns : goal.returns
returns g c =
    let year_in : FitsSigned w16 c.year.result = year_fits c.args.date c.year.result c.year.ensures in
    let month_in : FitsSigned w8 c.month.result = month_fits c.args.date c.month.result c.month.ensures in
    let day_in : FitsSigned w8 c.day.result = day_fits c.args.date c.day.result c.day.ensures in
    let year : c.unsigned_abs-year.result ≡ unsigned_abs c.args.date.year = c.unsigned_abs-year.ensures.value
    ∙ ap unsigned_abs (to_z-of_z w16 c.year.result year_in ∙ c.year.ensures) in
    let month : c.unsigned_abs-month.result ≡ c.args.date.month = c.unsigned_abs-month.ensures.value
    ∙ ap unsigned_abs (to_z-of_z w8 c.month.result month_in ∙ c.month.ensures) in
    let day : c.unsigned_abs-day.result ≡ c.args.date.day = c.unsigned_abs-day.ensures.value
    ∙ ap unsigned_abs (to_z-of_z w8 c.day.result day_in ∙ c.day.ensures) in
    let parts : civil_octets (record {
      year = c.unsigned_abs-year.result;
      month = c.unsigned_abs-month.result;
      day =
          c.unsigned_abs-day.result;
    })
    ≡ civil_octets (record {
      year = unsigned_abs c.args.date.year;
      month = c.args.date.month;
      day =
          c.args.date.day;
    }) =
    λ i. civil_octets (record { year = year i; month = month i; day = day i }) in
    adds_same (ap (λ s. s ++ codes "\n") (parts ∙ sym (day_text c.args.date c.requires))) c.buffer_civil.ensures
