use Rattle.std.proofs.Common.{◌∙◌, ap, option_map}
use Rattle.command_lines.specs.Days.{named}
use Rattle.command_lines.proofs.DayLemmas.{day_made}
use Rattle.command_lines.proofs.days.real_day.Goals as goal

pub returns : goal.returns
returns c =
    ap (option_map named) c.ok.ensures.value
    ∙ day_made c.new.result _ _ _ c.if-year-lt-FIRST_YEAR.false c.requires.year c.requires.month
    c.requires.day c.new.ensures.succeeds c.new.ensures.value
