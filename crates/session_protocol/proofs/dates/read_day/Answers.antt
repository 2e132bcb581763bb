use Rattle.std.proofs.Common.{◌≡◌, ◌∙◌, true}
use Rattle.session_protocol.specs.Dates.{has_dashes}
use Rattle.session_protocol.proofs.DayLemmas.{no_dashes, day_read}
use Rattle.session_protocol.proofs.dates.read_day.Goals as goal

pub returns-then-not-has_dashes : goal.returns-then-not-has_dashes
returns-then-not-has_dashes c = no_dashes c.args.word.now (cc)

pub returns : goal.returns
returns c =
    let dashes : has_dashes c.args.word.now ≡ true = cc in
    c.day_from.ensures
    ∙ day_read c.args.word.now c.read_digits-year.result c.read_digits-month.result c.read_digits-day.result dashes
    c.read_digits-year.ensures.number c.read_digits-month.ensures.number c.read_digits-day.ensures.number
