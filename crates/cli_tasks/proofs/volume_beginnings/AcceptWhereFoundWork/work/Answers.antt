use Rattle.cli_tasks.proofs.HistoryLaws.{of_opened}
use Rattle.cli_tasks.proofs.volume_beginnings.AcceptWhereFoundWork.work.Goals as goal

pub returns-in-Ok : goal.returns-in-Ok
returns-in-Ok g c =
    of_opened g.S.Store c.args.self.0 c.args.archive c.in-Ok.noted c.accept_noted.result.0 c.accept_noted.result.1 c.in-Ok.ensures.ok
    c.accept_noted.ensures
