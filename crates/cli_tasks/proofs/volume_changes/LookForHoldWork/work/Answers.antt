use Rattle.std.proofs.Common.{Bool, subst, sym}
use Rattle.std.proofs.lemmas.Result.{IfOk-weaker}
use Rattle.sqlite.specs.Held.{Held}
use Rattle.cli_tasks.specs.Changes.{ShowsHold}
use Rattle.cli_tasks.proofs.volume_changes.LookForHoldWork.work.Goals as goal

pub returns : goal.returns
returns g c =
    let shows = λ (after : Held g.row.S.Denot) (is_held : Bool). ShowsHold g.S.Store c.args.self.name.now c.args.archive after is_held in
    IfOk-weaker c.is_held_by-is_held.result (shows c.is_held_by-is_held.new.archive.conn) (shows c.into_connection.result)
    (λ is_held told. subst (λ (after : Held g.row.S.Denot). shows after is_held) (sym c.into_connection.ensures) told)
    c.is_held_by-is_held.ensures.held
