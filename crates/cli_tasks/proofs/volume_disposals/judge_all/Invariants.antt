use Rattle.cli_tasks.specs.Disposals.{JudgesIn, WhereAsked}
use Rattle.cli_tasks.specs.Works.{EachVolume}
use Rattle.cli_tasks.proofs.volume_disposals.judge_all.Given as goal

abbrev pub invariant-loop-below : goal.invariant-loop-below
invariant-loop-below g l = EachVolume l.below (λ v. WhereAsked l.fn.typed v
    (JudgesIn g.A.Kept.Store (g.A.Archives.is_at l.fn.archives) l.fn.volumes.folder.now l.fn.told l.fn.day v))
