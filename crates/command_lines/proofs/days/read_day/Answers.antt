use Rattle.std.proofs.Common.{◌≡◌, ◌∙◌, true}
use Rattle.command_lines.specs.Days.{has_hyphens}
use Rattle.command_lines.proofs.DayLemmas.{no_hyphens, day_read}
use Rattle.command_lines.proofs.days.read_day.Goals as goal

pub returns-then-not-has_hyphens : goal.returns-then-not-has_hyphens
returns-then-not-has_hyphens c = no_hyphens c.args.word.now (cc)

pub returns : goal.returns
returns c =
    let hyphens : has_hyphens c.args.word.now ≡ true = cc in
    c.day_from.ensures
    ∙ day_read c.args.word.now c.read_digits-year.result c.read_digits-month.result c.read_digits-day.result hyphens
    c.read_digits-year.ensures.number c.read_digits-month.ensures.number c.read_digits-day.ensures.number
