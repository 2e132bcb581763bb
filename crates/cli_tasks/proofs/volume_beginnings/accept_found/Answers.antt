use Rattle.std.proofs.Common.{List, subst, ℕ, Bool}
use Rattle.std.specs.Prelude.{IfOk, Result}
use Rattle.std.proofs.lemmas.Result.{on_ok_weaker}
use Rattle.cli_console.specs.declared.failure.Failure.{Failure}
use Rattle.cli_tasks.specs.Histories.{AcceptsIn, AcceptsOver, DoneInSome}
use Rattle.cli_tasks.proofs.volume_beginnings.accept_found.Goals as goal

pub returns : goal.returns
returns g c =
    let store = g.A.Kept.Store in
    let IsAt = g.A.Archives.is_at c.args.archives.now in
    let told = c.args.told.now in
    let volumes = c.in_ok-volumes.volumes in
    let Accepts = AcceptsIn store IsAt volumes.folder.now told in
    let accepted = subst (λ (r : Result Bool Failure). IfOk r (λ any. DoneInSome Accepts any volumes.last)) c.in_ok-is_any.ensures
    c.accept_in_each-accepted.ensures in
    on_ok_weaker c.if_any.result (λ any. (
      volumes.last,
      c.in_ok-volumes.ensures.some,
      subst (λ (f : List ℕ). AcceptsOver store IsAt f told volumes.last) c.in_ok-volumes.ensures.folder
          (subst (λ b. DoneInSome Accepts b volumes.last) any accepted),
    )) c.if_any.ensures.done
