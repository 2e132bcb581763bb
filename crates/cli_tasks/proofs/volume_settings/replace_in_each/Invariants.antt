use Rattle.cli_tasks.specs.Settings.{ReplacesPlanIn}
use Rattle.cli_tasks.proofs.DownLaws.{FromLast}
use Rattle.cli_tasks.proofs.volume_settings.replace_in_each.Given as goal

abbrev pub invariant-loop-later : goal.invariant-loop-later
invariant-loop-later g l =
    FromLast (ReplacesPlanIn g.A.Kept.Store (g.A.Archives.is_at l.fn.archives) l.fn.volumes.folder.now l.fn.told l.fn.plan)
    l.fn.volumes.last l.later
