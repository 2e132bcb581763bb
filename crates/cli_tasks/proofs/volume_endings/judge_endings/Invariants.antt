use Rattle.std.proofs.Common.{All, take}
use Rattle.cli_tasks.specs.Endings.{JudgesWhereAny}
use Rattle.cli_tasks.proofs.volume_endings.judge_endings.Given as goal

abbrev pub invariant-loop-of_volume : goal.invariant-loop-of_volume
invariant-loop-of_volume g l =
    All (JudgesWhereAny g.A.Kept.Store (g.A.Archives.is_at l.fn.archives) l.fn.volumes.folder.now l.fn.told) (take l.of_volume-index l.listed)
