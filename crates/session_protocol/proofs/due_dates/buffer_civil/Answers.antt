use Rattle.std.proofs.Common.{◌≡◌, ◌++◌, ◌∙◌, [], codes, decimal}
use Rattle.session_protocol.specs.Dates.{two_digits}
use Rattle.session_protocol.proofs.Adding.{adds_same}
use Rattle.session_protocol.proofs.DayLemmas.{date_pieces}
use Rattle.session_protocol.proofs.due_dates.buffer_civil.Goals as goal

pub returns : goal.returns
returns g c =
    let year : c.as_bytes-year_text.result.now ≡ decimal c.args.year = c.as_bytes-year_text.ensures.value ∙ c.format.ensures.text in
    let month : c.as_bytes-month_text.result.now ≡ decimal c.args.month = c.as_bytes-month_text.ensures.value ∙ c.format-2.ensures.text in
    let day : c.as_bytes-day_text.result.now ≡ decimal c.args.day = c.as_bytes-day_text.ensures.value ∙ c.format-3.ensures.text in
    let a = c.dash_before.result.now in
    let b = c.dash_before-2.result.now in
    let texts : c.as_bytes-year_text.result.now
    ++ (a ++ (c.as_bytes-month_text.result.now
    ++ (b ++ (c.as_bytes-day_text.result.now ++ (c.as_slice.result.now ++ []))))) ≡ decimal c.args.year
    ++ (a ++ (decimal c.args.month ++ (b ++ (decimal c.args.day ++ (codes "\n" ++ []))))) =
    λ i. year i ++ (a ++ (month i ++ (b ++ (day i ++ (c.as_slice.ensures i ++ []))))) in
    let pieces =
    date_pieces (decimal c.args.year) (decimal c.args.month) (decimal c.args.day) a b (two_digits c.args.month)
    (two_digits c.args.day) (codes "\n") (codes "-") c.dash_before.ensures c.dash_before-2.ensures in
    adds_same (texts ∙ pieces) c.buffer_pieces.ensures
