use Rattle.std.proofs.Common.{◌≡◌, ◌+◌, ℕ, arith, refl, subst, suc}
use Rattle.cli_tasks.specs.Twins.{DoneWithEach, MakesRowsIn}
use Rattle.cli_tasks.proofs.volume_twice.list_all.Goals as goal

pub loop-below-init : goal.loop-below-init
loop-below-init g c = refl

pub loop-below-preserved : goal.loop-below-preserved
loop-below-preserved g c =
    let Does = MakesRowsIn g.A.Kept.Store (g.A.Archives.is_at c.args.archives.now) c.args.volumes.folder.now in
    let below = c.loop-below.below in
    let more : suc below ≡ below + 1 = omega arith in
    subst (λ (n : ℕ). DoneWithEach Does n c.args.list c.in_ok-list.list) more
    (c.loop-below.list, c.loop-below.invariant, c.in_ok-list.ensures)

pub returns : goal.returns
returns g c =
    let Does = MakesRowsIn g.A.Kept.Store (g.A.Archives.is_at c.args.archives.now) c.args.volumes.folder.now in
    let all : c.loop-below.below ≡ c.args.volumes.last = omega arith in
    subst (λ (n : ℕ). DoneWithEach Does n c.args.list c.loop-below.list) all c.loop-below.invariant
