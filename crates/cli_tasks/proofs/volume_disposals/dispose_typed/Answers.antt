use Rattle.std.proofs.lemmas.Result.{on_ok_weaker}
use Rattle.cli_tasks.specs.Disposals.{DisposesIn}
use Rattle.cli_tasks.proofs.DisposalLaws.{where_none, where_some}
use Rattle.cli_tasks.proofs.volume_disposals.dispose_typed.Goals as goal

pub returns-in-Some : goal.returns-in-Some
returns-in-Some g c =
    let IsAt = g.A.Archives.is_at c.args.archives.now in
    let Holds = DisposesIn g.A.Kept.Store IsAt c.args.volumes.folder.now c.args.told.now c.args.day c.args.volume in
    on_ok_weaker c.dispose_in.result (λ holds.
    where_some c.args.typed.now c.args.volume c.in_ok-asked.field-0 c.in-Some.asked Holds c.in-Some.is c.in_ok-asked.ensures.disposal holds)
    c.dispose_in.ensures

pub returns-in-None : goal.returns-in-None
returns-in-None g c =
    let IsAt = g.A.Archives.is_at c.args.archives.now in
    let Holds = DisposesIn g.A.Kept.Store IsAt c.args.volumes.folder.now c.args.told.now c.args.day c.args.volume in
    where_none c.args.typed.now c.args.volume c.in_ok-asked.field-0 Holds c.in-None.is c.in_ok-asked.ensures.asked
