use Rattle.std.proofs.Common.{sym, ◌∙◌}
use Rattle.cli_changes.proofs.dispose.day_of_disposal.Goals as goal

pub returns-in-Ok-clause-day : goal.returns-in-Ok-clause-day
returns-in-Ok-clause-day c = (c.in_ok-today.field-0, sym c.day_asked.ensures ∙ c.in-Ok.is)
