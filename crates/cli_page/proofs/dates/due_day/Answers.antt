use Rattle.cli_page.proofs.DayLemmas.{no_number, no_year_number}
use Rattle.cli_page.proofs.dates.due_day.Goals as goal

pub returns-in_default : goal.returns-in_default
returns-in_default c = no_number c.args.date c.day_number.result c.day_number.ensures.number c.in_default.ensures

pub returns-in_default-try_from : goal.returns-in_default-try_from
returns-in_default-try_from c = no_year_number c.args.date c.year.result c.year.ensures c.in_default-try_from.ensures
