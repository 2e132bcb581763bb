use Rattle.std.proofs.Common.{◌≡◌, ◌+◌, arith, below_more, subst, ℕ}
use Rattle.cli_tasks.specs.Copies.{CopiesIn}
use Rattle.cli_tasks.specs.Works.{EachVolume}
use Rattle.cli_tasks.proofs.volume_copies.copy_each.Goals as goal

pub loop-below-init : goal.loop-below-init
loop-below-init g c = λ k less. absurd (omega arith)

pub loop-below-preserved : goal.loop-below-preserved
loop-below-preserved g c =
    let In = CopiesIn g.A.Kept.Store (g.A.Archives.is_at c.args.archives.now) c.args.volumes.folder.now c.args.folder.now in
    below_more (λ k. In (k + 1)) c.loop-below.below c.loop-below.invariant c.in_ok-volume.ensures

pub returns : goal.returns
returns g c =
    let In = CopiesIn g.A.Kept.Store (g.A.Archives.is_at c.args.archives.now) c.args.volumes.folder.now c.args.folder.now in
    let all : c.loop-below.below ≡ c.args.volumes.last = omega arith in
    subst (λ (n : ℕ). EachVolume n In) all c.loop-below.invariant
