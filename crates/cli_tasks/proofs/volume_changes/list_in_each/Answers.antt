use Rattle.std.proofs.Common.{◌≡◌, ◌+◌, ℕ, arith, refl, subst}
use Rattle.cli_tasks.specs.Releases.{ListsEach}
use Rattle.cli_tasks.proofs.ReleaseLaws.{listed_in_next, listed_in_none}
use Rattle.cli_tasks.proofs.volume_changes.list_in_each.Goals as goal

pub loop-below-init : goal.loop-below-init
loop-below-init g c =
    listed_in_none g.A.Kept.Store (g.A.Archives.is_at c.args.archives.now) c.args.volumes.folder.now c.args.name.now
    c.new-listed.result.items c.new-listed.ensures.items

pub loop-below-preserved : goal.loop-below-preserved
loop-below-preserved g c =
    listed_in_next g.A.Kept.Store (g.A.Archives.is_at c.args.archives.now) c.args.volumes.folder.now c.args.name.now c.loop-below.below
    c.loop-below.listed.items (record { volume = c.loop-below.below + 1; numbers = c.in_ok-numbers.numbers }) c.push.new.self.items
    c.in_ok-push.ensures.items c.loop-below.invariant c.in_ok-numbers.ensures refl

pub returns : goal.returns
returns g c =
    let all : c.loop-below.below ≡ c.args.volumes.last = omega arith in
    subst (λ (n : ℕ). ListsEach g.A.Kept.Store (g.A.Archives.is_at c.args.archives.now) c.args.volumes.folder.now c.args.name.now n
    c.loop-below.listed.items) all c.loop-below.invariant
