use Rattle.std.proofs.lemmas.Result.{on_ok_weaker}
use Rattle.cli_tasks.proofs.volume_plans.judge_plans.Goals as goal

pub returns : goal.returns
returns g c = on_ok_weaker c.judge_each.result (λ each. (c.in_ok-plan.plan, each)) c.judge_each.ensures
