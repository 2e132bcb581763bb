use Rattle.cli_tasks.specs.Histories.{IsSoundIn}
use Rattle.cli_tasks.specs.Works.{EachVolume}
use Rattle.cli_tasks.proofs.volume_soundness.judge_histories.Given as goal

abbrev pub invariant-loop-below : goal.invariant-loop-below
invariant-loop-below g l =
    EachVolume l.below (IsSoundIn g.A.Kept.Store (g.A.Archives.is_at l.fn.archives) l.fn.volumes.folder.now)
