use Rattle.std.proofs.Common.{◌≡◌}
use Rattle.cli_tasks.specs.Works.{EachVolume, InVolume}
use Rattle.cli_tasks.proofs.volume_plans.judge_each.Given as goal

abbrev pub invariant-loop-below : goal.invariant-loop-below
invariant-loop-below g l = EachVolume l.below (λ v. InVolume (g.A.Archives.is_at l.fn.archives) l.fn.volumes.folder.now v
    (λ before after. before.plan ≡ l.fn.plan))
