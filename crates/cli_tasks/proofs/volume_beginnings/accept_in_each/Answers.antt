use Rattle.std.proofs.Common.{◌≡◌, ◌+◌, ◌∙◌, ap, arith, subst, sym, Bool, ℕ}
use Rattle.std.specs.Prelude.{IfOk, Result, is_ok}
use Rattle.cli_console.specs.declared.failure.Failure.{Failure}
use Rattle.cli_console.proofs.JoinedLaws.{not_refused}
use Rattle.cli_tasks.specs.Histories.{AcceptsIn, DoneInSome}
use Rattle.cli_tasks.proofs.HistoryLaws.{next_done, none_done}
use Rattle.cli_tasks.proofs.volume_beginnings.accept_in_each.Goals as goal

pub loop-below-init : goal.loop-below-init
loop-below-init g c = λ none.
    none_done (AcceptsIn g.A.Kept.Store (g.A.Archives.is_at c.args.archives.now) c.args.volumes.folder.now c.args.told.now)

pub loop-below-preserved : goal.loop-below-preserved
loop-below-preserved g c = λ none.
    let Accepts = AcceptsIn g.A.Kept.Store (g.A.Archives.is_at c.args.archives.now) c.args.volumes.folder.now c.args.told.now in
    let below = c.loop-below.below in
    let holds = subst (λ (r : Result Bool Failure). IfOk r (λ n. Accepts n (below + 1))) (c.in_ok-is_new.ensures.done none)
    c.accept_in-accepted.ensures in
    next_done Accepts c.loop-below.is_any c.in_ok-is_new.is_new below (c.loop-below.invariant (c.in_ok-is_new.ensures.before none)) holds

pub returns : goal.returns
returns g c =
    let Accepts = AcceptsIn g.A.Kept.Store (g.A.Archives.is_at c.args.archives.now) c.args.volumes.folder.now c.args.told.now in
    let all : c.loop-below.below ≡ c.args.volumes.last = omega arith in
    let well = not_refused c.loop-below.joined.is_refused (sym c.end.ensures.well ∙ ap is_ok c.in_ok-end.was) in
    subst (λ (n : ℕ). DoneInSome Accepts c.loop-below.is_any n) all (c.loop-below.invariant well)
