use Rattle.cli_tasks.specs.Copies.{FillsWith}
use Rattle.cli_tasks.proofs.CopyLemmas.{where_done}
use Rattle.cli_tasks.proofs.copy.fill.Goals as goal

pub returns-in-Ok : goal.returns-in-Ok
returns-in-Ok g c =
    where_done (g.A.Archives.is_at c.args.archives.now c.args.draft.now)
    (FillsWith g.S.Store g.A.Kept.Store c.args.filling.plan.now c.args.from.now c.lend_to_fill.new.from) c.in-Ok.lent.0 c.in-Ok.ensures
