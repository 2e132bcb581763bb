use Rattle.cli_tasks.proofs.BackLaws.{EmptyAbove}
use Rattle.cli_tasks.proofs.volume_days.Earlier.looked_back.Given as goal

abbrev pub invariant-loop-later : goal.invariant-loop-later
invariant-loop-later g l =
    EmptyAbove g.A.Kept.Store (g.A.Archives.is_at l.fn.self.archives.now) l.fn.self.volumes.folder.now l.fn.timing l.fn.self.volumes.last
    l.later
