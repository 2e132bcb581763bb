use Rattle.std.proofs.Common.{◌≡◌, ◌+◌, arith, below_more, subst, ℕ}
use Rattle.sqlite.specs.Held.{Held}
use Rattle.record_store.specs.declared.store.Store.{Store}
use Rattle.cli_tasks.specs.Works.{EachVolume, InVolume}
use Rattle.cli_tasks.proofs.volume_plans.judge_each.Goals as goal

pub loop-below-init : goal.loop-below-init
loop-below-init g c = λ k less. absurd (omega arith)

pub loop-below-preserved : goal.loop-below-preserved
loop-below-preserved g c =
    let IsAt = g.A.Archives.is_at c.args.archives.now in
    let Has = λ (before : Store g.row.A-Kept.Denot) (after : Held g.row.A-Kept.Denot). before.plan ≡ c.args.plan.now in
    below_more (λ k. InVolume IsAt c.args.volumes.folder.now (k + 1) Has) c.loop-below.below c.loop-below.invariant
    c.in_ok-judge_plan.ensures

pub returns : goal.returns
returns g c =
    let IsAt = g.A.Archives.is_at c.args.archives.now in
    let Has = λ (before : Store g.row.A-Kept.Denot) (after : Held g.row.A-Kept.Denot). before.plan ≡ c.args.plan.now in
    let all : c.loop-below.below ≡ c.args.volumes.last = omega arith in
    subst (λ (n : ℕ). EachVolume n (λ v. InVolume IsAt c.args.volumes.folder.now v Has)) all c.loop-below.invariant
