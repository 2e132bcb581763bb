use Rattle.std.proofs.Common.{subst, sym}
use Rattle.std.proofs.lemmas.Result.{IfOk-weaker}
use Rattle.sqlite.specs.Held.{Held}
use Rattle.cli_tasks.specs.Changes.{ShowsMoves}
use Rattle.cli_tasks.specs.declared.volume_refilings.Moved.{Moved}
use Rattle.cli_tasks.proofs.volume_refilings.FindMovesWork.work.Goals as goal

pub returns : goal.returns
returns g c =
    let asked = c.args.self.asked in
    let shows = λ (after : Held g.row.S.Denot) (m : Moved).
    ShowsMoves g.S.Store asked.to.now asked.choice.now asked.questions.now c.args.archive after m in
    IfOk-weaker c.perform-found.result (shows c.perform-found.new.archive.conn) (shows c.into_connection.result)
    (λ m told. subst (λ (after : Held g.row.S.Denot). shows after m) (sym c.into_connection.ensures) told) c.perform-found.ensures
