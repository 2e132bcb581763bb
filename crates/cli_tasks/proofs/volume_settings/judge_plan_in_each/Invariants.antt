use Rattle.cli_tasks.specs.Settings.{JudgesPlanIn}
use Rattle.cli_tasks.specs.Works.{EachVolume}
use Rattle.cli_tasks.proofs.volume_settings.judge_plan_in_each.Given as goal

abbrev pub invariant-loop-below : goal.invariant-loop-below
invariant-loop-below g l = EachVolume l.below
    (JudgesPlanIn g.A.Kept.Store (g.A.Archives.is_at l.fn.archives) l.fn.volumes.folder.now l.fn.told l.fn.plan)
