use Rattle.cli_tasks.proofs.volume_settings.JudgePlanLedgerWork.perform.Goals as goal

pub returns : goal.returns
returns g c =
    let judged = c.judge_plan.ensures in
    record { falls = judged.falls; done = judged.done; failed = judged.failed }
