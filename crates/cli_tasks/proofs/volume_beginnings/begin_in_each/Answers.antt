use Rattle.std.proofs.Common.{◌≡◌, ◌+◌, arith, subst, sym, ℕ}
use Rattle.cli_tasks.specs.Histories.{BeginsIn, DoneInSome}
use Rattle.cli_tasks.proofs.HistoryLaws.{next_done, none_done}
use Rattle.cli_tasks.proofs.volume_beginnings.begin_in_each.Goals as goal

pub loop-below-init : goal.loop-below-init
loop-below-init g c = none_done (BeginsIn g.A.Kept.Store (g.A.Archives.is_at c.args.archives.now) c.args.volumes.folder.now)

pub loop-below-preserved : goal.loop-below-preserved
loop-below-preserved g c =
    let Begins = BeginsIn g.A.Kept.Store (g.A.Archives.is_at c.args.archives.now) c.args.volumes.folder.now in
    next_done Begins c.loop-below.is_any c.is_some-is_any.result c.loop-below.below c.loop-below.invariant
    (subst (λ b. Begins b (c.loop-below.below + 1)) (sym c.is_some-is_any.ensures) c.in_ok-begun.ensures)

pub returns : goal.returns
returns g c =
    let Begins = BeginsIn g.A.Kept.Store (g.A.Archives.is_at c.args.archives.now) c.args.volumes.folder.now in
    let all : c.loop-below.below ≡ c.args.volumes.last = omega arith in
    subst (λ (n : ℕ). DoneInSome Begins c.loop-below.is_any n) all c.loop-below.invariant
