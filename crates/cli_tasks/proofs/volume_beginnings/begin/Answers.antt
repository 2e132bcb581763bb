use Rattle.std.proofs.Common.{List, subst, sym, true, ℕ, Bool}
use Rattle.std.specs.Prelude.{IfOk, Result}
use Rattle.std.proofs.lemmas.Result.{on_ok_weaker}
use Rattle.cli_console.specs.declared.failure.Failure.{Failure}
use Rattle.cli_tasks.specs.Histories.{BeginsIn, BeginsOver, DoneInSome}
use Rattle.cli_tasks.proofs.volume_beginnings.begin.Goals as goal

pub returns : goal.returns
returns g c =
    let store = g.A.Kept.Store in
    let IsAt = g.A.Archives.is_at c.args.archives.now in
    let volumes = c.in_ok-volumes.volumes in
    let Begins = BeginsIn store IsAt volumes.folder.now in
    let begun = subst (λ (r : Result Bool Failure). IfOk r (λ any. DoneInSome Begins any volumes.last)) c.in_ok-is_any.ensures
    c.begin_in_each-begun.ensures in
    on_ok_weaker c.if_any.result (λ any.
    let over : BeginsOver store IsAt volumes.folder.now volumes.last =
    record { judged = c.in_ok-judge_beginnings.ensures; begun = subst (λ b. DoneInSome Begins b volumes.last) any begun } in (
      volumes.last,
      c.in_ok-volumes.ensures.some,
      subst (λ (f : List ℕ). BeginsOver store IsAt f volumes.last) c.in_ok-volumes.ensures.folder over,
    )) c.if_any.ensures.done
