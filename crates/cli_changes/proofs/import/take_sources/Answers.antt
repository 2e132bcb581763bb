use Rattle.std.proofs.Common.{◌∙◌}
use Rattle.cli_changes.proofs.ImportLaws.{import_broken, import_whole}
use Rattle.cli_changes.proofs.import.take_sources.Goals as goal

pub returns-in-Ok : goal.returns-in-Ok
returns-in-Ok g c =
    import_whole g.A.Records.keeper c.args.terms.now c.args.room.now c.take_each.new.room c.args.progress.now c.take_each.new.progress c.close.result
    c.in-Ok.ensures.taken c.close.ensures.none_left c.close.ensures.ended

pub returns-in-Err : goal.returns-in-Err
returns-in-Err g c =
    import_broken g.A.Records.keeper c.args.terms.now c.args.room.now c.take_each.new.room c.args.progress.now c.take_each.new.progress
    c.broken_off.result c.in-Err.ensures.ended c.broken_off.ensures.left (c.broken_off.ensures.ended ∙ c.is_full.ensures)
