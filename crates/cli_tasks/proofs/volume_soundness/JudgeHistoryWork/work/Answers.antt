use Rattle.cli_tasks.proofs.HistoryLaws.{sound_there}
use Rattle.cli_tasks.proofs.volume_soundness.JudgeHistoryWork.work.Goals as goal

pub returns-in-Ok : goal.returns-in-Ok
returns-in-Ok g c =
    sound_there g.S.Store c.args.archive c.in-Ok.noted c.judge_noted.result.0 tt c.judge_noted.result.1 c.in-Ok.ensures.ok c.judge_noted.ensures
