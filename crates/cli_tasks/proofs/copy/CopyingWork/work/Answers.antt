use Rattle.std.proofs.Common.{◌≡◌, IfOk, subst}
use Rattle.cli_tasks.specs.declared.copy.Kept.{Kept}
use Rattle.cli_tasks.proofs.CopyLemmas.{copied_to}
use Rattle.cli_tasks.proofs.copy.CopyingWork.work.Goals as goal

pub returns-in-Ok : goal.returns-in-Ok
returns-in-Ok g c =
    let read = c.read_all-archive.result.0 in
    let plan_is = subst (λ r. IfOk r (λ (kept : Kept). kept.plan ≡ read.plan)) c.in-Ok.is c.read_all-archive.ensures in
    copied_to g.S.Store g.A.Kept.Store (g.A.Archives.is_at c.args.self.archives.now) c.args.self.paths.new.now c.args.archive read
    c.in-Ok.kept.plan c.into_connection-from.result c.make_copy-made.new.from c.make_copy-made.result plan_is c.into_connection-from.ensures
    c.make_copy-made.ensures
