use Rattle.std.proofs.Common.{◌≡◌, ◌+◌, ◌-◌, ◌<◌, arith, subst, ℕ}
use Rattle.class_plan.specs.Plans.{Listing}
use Rattle.cli_tasks.specs.Settings.{ReplacesPlanIn}
use Rattle.cli_tasks.proofs.DownLaws.{FromLast, each_from_last, more_from_last, none_from_last}
use Rattle.cli_tasks.proofs.volume_settings.replace_in_each.Goals as goal

pub loop-later-init : goal.loop-later-init
loop-later-init g c =
    none_from_last
    (ReplacesPlanIn g.A.Kept.Store (g.A.Archives.is_at c.args.archives.now) c.args.volumes.folder.now c.args.told.now c.args.plan.now)
    c.args.volumes.last

pub loop-later-preserved : goal.loop-later-preserved
loop-later-preserved g c =
    let Replaces = ReplacesPlanIn g.A.Kept.Store (g.A.Archives.is_at c.args.archives.now) c.args.volumes.folder.now c.args.told.now in
    let last = c.args.volumes.last in
    let later = c.loop-later.later in
    let less : later < last = c.loop-later-test.true in
    let at : (last - later) + later ≡ last = omega (arith, less) in
    more_from_last (Replaces c.args.plan.now) last later (last - later) at
    (subst (λ (plan : Listing). Replaces plan (last - later)) c.in_ok-copied.ensures c.in_ok-change_in.ensures) c.loop-later.invariant

pub returns : goal.returns
returns g c =
    let Replaces = ReplacesPlanIn g.A.Kept.Store (g.A.Archives.is_at c.args.archives.now) c.args.volumes.folder.now c.args.told.now
    c.args.plan.now in
    let all : c.loop-later.later ≡ c.args.volumes.last = omega arith in
    each_from_last Replaces c.args.volumes.last (subst (λ (n : ℕ). FromLast Replaces c.args.volumes.last n) all c.loop-later.invariant)
