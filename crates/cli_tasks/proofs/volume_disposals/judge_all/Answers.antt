use Rattle.std.proofs.Common.{◌≡◌, ◌+◌, arith, below_more, subst, ℕ}
use Rattle.cli_tasks.specs.Disposals.{JudgesIn, WhereAsked}
use Rattle.cli_tasks.specs.Works.{EachVolume}
use Rattle.cli_tasks.proofs.volume_disposals.judge_all.Goals as goal

pub loop-below-init : goal.loop-below-init
loop-below-init g c = λ k less. absurd (omega arith)

pub loop-below-preserved : goal.loop-below-preserved
loop-below-preserved g c =
    let Judges = JudgesIn g.A.Kept.Store (g.A.Archives.is_at c.args.archives.now) c.args.volumes.folder.now c.args.told.now c.args.day in
    below_more (λ k. WhereAsked c.args.typed.now (k + 1) (Judges (k + 1))) c.loop-below.below c.loop-below.invariant c.in_ok-judge_typed.ensures

pub returns : goal.returns
returns g c =
    let Judges = JudgesIn g.A.Kept.Store (g.A.Archives.is_at c.args.archives.now) c.args.volumes.folder.now c.args.told.now c.args.day in
    let all : c.loop-below.below ≡ c.args.volumes.last = omega arith in
    record {
      plans = c.in_ok-judge_plans.ensures;
      each = subst (λ (n : ℕ). EachVolume n (λ v. WhereAsked c.args.typed.now v (Judges v))) all c.loop-below.invariant;
    }
