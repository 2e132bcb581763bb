use Rattle.std.proofs.Common.{Some, ap, ◌∙◌}
use Rattle.record_archive.specs.Archive.{Archive}
use Rattle.cli_changes.specs.Moments.{later_of}
use Rattle.cli_changes.proofs.DayLaws.{small_kept}
use Rattle.cli_changes.proofs.moments.LastDayReader.take.Goals as goal

pub returns-clause-taken : goal.returns-clause-taken
returns-clause-taken g c = λ clean (a : Archive) s told.
    ap Some (c.later_of-last.ensures ∙ ap (later_of c.args.self.now.last)
    (small_kept c.args.entry.now.day c.day_number.result c.small_day-day.result c.day_number.ensures.number c.small_day-day.ensures.day
    c.small_day-day.ensures.early))
