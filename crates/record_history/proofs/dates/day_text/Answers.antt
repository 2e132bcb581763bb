use Rattle.std.proofs.Common.{◌∙◌, ap, sym}
use Rattle.std.proofs.lemmas.Result.{IfOk-weaker}
use Rattle.record_history.specs.Civil.{civil_of}
use Rattle.record_history.proofs.DayLemmas.{day_digits}
use Rattle.record_history.proofs.dates.day_text.Goals as goal

pub returns : goal.returns
returns c =
    let parts = ap civil_of (sym c.from.ensures) ∙ c.civil_of-year.ensures.civil in
    IfOk-weaker c.civil_digits.result _ _ (λ v h. h ∙ sym (day_digits c.args.day _ parts)) c.civil_digits.ensures
