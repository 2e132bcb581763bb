use Rattle.std.proofs.Common.{◌≡◌, ◌+◌, ℕ, arith, refl, subst, suc}
use Rattle.cli_tasks.specs.Twins.{DoneWithEach, GathersIn}
use Rattle.cli_tasks.proofs.volume_twice.gather_all.Goals as goal

pub loop-below-init : goal.loop-below-init
loop-below-init g c = refl

pub loop-below-preserved : goal.loop-below-preserved
loop-below-preserved g c =
    let Does = GathersIn g.A.Kept.Store (g.A.Archives.is_at c.args.archives.now) c.args.volumes.folder.now in
    let below = c.loop-below.below in
    let more : suc below ≡ below + 1 = omega arith in
    subst (λ (n : ℕ). DoneWithEach Does n c.args.groups c.in_ok-groups.groups) more
    (c.loop-below.groups, c.loop-below.invariant, c.in_ok-groups.ensures)

pub returns : goal.returns
returns g c =
    let Does = GathersIn g.A.Kept.Store (g.A.Archives.is_at c.args.archives.now) c.args.volumes.folder.now in
    let all : c.loop-below.below ≡ c.args.volumes.last = omega arith in
    subst (λ (n : ℕ). DoneWithEach Does n c.args.groups c.loop-below.groups) all c.loop-below.invariant
