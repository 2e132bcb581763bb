use Rattle.std.proofs.Common.{false, true}
use Rattle.cli_tasks.proofs.ChangeLemmas.{disposes}
use Rattle.cli_tasks.proofs.volume_disposals.DisposeDueLedgerWork.perform.Goals as goal

pub returns-in-Err : goal.returns-in-Err
returns-in-Err g c =
    let used = c.on_output-certificates.result.seals.now in
    disposes g.S.Store c.args.ledger.now c.dispose_by.new.archive false c.args.self.asked.now c.args.self.day
    c.args.seals.now used c.on_output-certificates.ensures.seals c.dispose_by.ensures.falls (λ no. (c.dispose_by.ensures.listed no).1)
    (λ yes. let these = c.in-Err.ensures.destroyed yes in (these.0, these.2))

pub returns-in-Ok : goal.returns-in-Ok
returns-in-Ok g c =
    let used = c.on_output-certificates.result.seals.now in
    disposes g.S.Store c.args.ledger.now c.dispose_by.new.archive true c.args.self.asked.now c.args.self.day
    c.args.seals.now used c.on_output-certificates.ensures.seals c.dispose_by.ensures.falls (λ no. (c.dispose_by.ensures.listed no).1)
    (λ yes. let these = c.in-Ok.ensures.destroyed yes in (these.0, these.2))
