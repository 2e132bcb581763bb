use Rattle.std.proofs.Common.{sym}
use Rattle.command_lines.proofs.MomentLemmas.{second_of_day}
use Rattle.command_lines.proofs.archives.captures.moment_of.Goals as goal

pub returns-in_ok-day_of-in-None : goal.returns-in_ok-day_of-in-None
returns-in_ok-day_of-in-None c =
    second_of_day c.args.word.now _ c.in_ok-day_of-in-None.field-0 _ c.as_bytes.ensures.value (sym c.in-None.ensures.number)
    (sym c.in_ok-day_of-in-None.ensures) c.first_second_of.ensures
