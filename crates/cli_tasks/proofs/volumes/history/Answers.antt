use Rattle.std.proofs.Common.{sym, subst}
use Rattle.std.proofs.lemmas.Result.{on_ok_weaker}
use Rattle.command_lines.specs.declared.archives.histories.HistoryTask.{HistoryTask}
use Rattle.cli_tasks.specs.Volumes.{DoesWithHistories}
use Rattle.cli_tasks.proofs.volumes.history.Goals as goal

pub returns-in-Begin : goal.returns-in-Begin
returns-in-Begin g c =
    let Does = DoesWithHistories g.A.Kept.Store (g.A.Archives.is_at c.args.archives.now) c.args.volumes.folder.now c.args.told.now in
    on_ok_weaker c.begin.result (λ done. subst (λ (t : HistoryTask). Does t) (sym c.in-Begin.is) done) c.begin.ensures

pub returns-in-Reasons : goal.returns-in-Reasons
returns-in-Reasons g c =
    let Does = DoesWithHistories g.A.Kept.Store (g.A.Archives.is_at c.args.archives.now) c.args.volumes.folder.now c.args.told.now in
    on_ok_weaker c.require_reasons.result (λ done. subst (λ (t : HistoryTask). Does t) (sym c.in-Reasons.is) done) c.require_reasons.ensures

pub returns-in-AcceptFound : goal.returns-in-AcceptFound
returns-in-AcceptFound g c =
    let Does = DoesWithHistories g.A.Kept.Store (g.A.Archives.is_at c.args.archives.now) c.args.volumes.folder.now c.args.told.now in
    on_ok_weaker c.accept_found.result (λ done. subst (λ (t : HistoryTask). Does t) (sym c.in-AcceptFound.is) done) c.accept_found.ensures
