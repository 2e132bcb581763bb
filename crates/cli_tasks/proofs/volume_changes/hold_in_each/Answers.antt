use Rattle.std.proofs.Common.{◌≡◌, ◌+◌, ℕ, arith, subst, sym}
use Rattle.cli_changes.specs.declared.holds.HoldTally.{HoldTally}
use Rattle.cli_tasks.specs.Volumes.{HoldsInEach}
use Rattle.cli_tasks.proofs.VolumeLaws.{held_in_next, held_in_none}
use Rattle.cli_tasks.proofs.volume_changes.hold_in_each.Goals as goal

pub loop-below-init : goal.loop-below-init
loop-below-init g c =
    let IsAt = g.A.Archives.is_at c.args.archives.now in
    let folder = c.args.volumes.folder.now in
    let told = c.args.told.now in
    let hold = c.args.hold in
    let typed = c.args.typed.now in
    let questions = c.args.questions.now in
    subst (λ (t : HoldTally). HoldsInEach g.A.Kept.Store IsAt folder told hold.change hold.name.now typed questions 0 t)
    (sym c.none-tally.ensures) (held_in_none g.A.Kept.Store IsAt folder told hold.change hold.name.now questions typed)

pub loop-below-preserved : goal.loop-below-preserved
loop-below-preserved g c =
    let IsAt = g.A.Archives.is_at c.args.archives.now in
    let folder = c.args.volumes.folder.now in
    let told = c.args.told.now in
    let hold = c.args.hold in
    let typed = c.args.typed.now in
    let questions = c.args.questions.now in
    let below = c.loop-below.below in
    subst (λ (t : HoldTally). HoldsInEach g.A.Kept.Store IsAt folder told hold.change hold.name.now typed questions (below + 1) t)
    (sym c.joined-tally.ensures)
    (held_in_next g.A.Kept.Store IsAt folder told hold.change hold.name.now questions typed below c.loop-below.tally c.in_ok-next.next
    c.loop-below.invariant c.in_ok-next.ensures)

pub returns : goal.returns
returns g c =
    let hold = c.args.hold in
    let all : c.loop-below.below ≡ c.args.volumes.last = omega arith in
    subst (λ (n : ℕ). HoldsInEach g.A.Kept.Store (g.A.Archives.is_at c.args.archives.now) c.args.volumes.folder.now c.args.told.now
    hold.change hold.name.now c.args.typed.now c.args.questions.now n c.loop-below.tally) all c.loop-below.invariant
