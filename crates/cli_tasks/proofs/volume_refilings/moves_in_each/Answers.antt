use Rattle.std.proofs.Common.{◌≡◌, ◌+◌, arith, refl, subst, ℕ}
use Rattle.cli_tasks.specs.Refiles.{MovesEach}
use Rattle.cli_tasks.specs.declared.volume_changes.Listed.{Listed}
use Rattle.cli_tasks.proofs.MoveLaws.{moved_in_next, moved_in_none}
use Rattle.cli_tasks.proofs.volume_refilings.moves_in_each.Goals as goal

pub loop-below-init : goal.loop-below-init
loop-below-init g c =
    moved_in_none g.A.Kept.Store (g.A.Archives.is_at c.args.archives.now) c.args.volumes.folder.now c.args.asked.to.now
    c.args.asked.typed.now c.args.asked.questions.now c.none-tally.result c.new-listed.result.items c.new-listed.ensures.items

pub loop-below-preserved : goal.loop-below-preserved
loop-below-preserved g c =
    let below = c.loop-below.below in
    let moved = c.in_ok-next.field-0 in
    let l : Listed = record { volume = below + 1; numbers = moved.numbers } in
    moved_in_next g.A.Kept.Store (g.A.Archives.is_at c.args.archives.now) c.args.volumes.folder.now c.args.asked.to.now
    c.args.asked.typed.now c.args.asked.questions.now below c.loop-below.tally c.loop-below.listed.items moved l c.joined-tally.result
    c.push.new.self.items c.joined-tally.ensures c.in_ok-push.ensures.items refl refl c.loop-below.invariant c.in_ok-next.ensures

pub returns : goal.returns
returns g c =
    let all : c.loop-below.below ≡ c.args.volumes.last = omega arith in
    subst (λ (n : ℕ). MovesEach g.A.Kept.Store (g.A.Archives.is_at c.args.archives.now) c.args.volumes.folder.now c.args.asked.to.now
    c.args.asked.typed.now c.args.asked.questions.now n c.loop-below.tally c.loop-below.listed.items) all c.loop-below.invariant
