use Rattle.std.proofs.Common.{◌∙◌, sym}
use Rattle.cli_tasks.proofs.volume_plans.has_plan.Goals as goal

pub returns : goal.returns
returns g c = (
  λ yes. sym c.plan.ensures.value ∙ c.in_ok-is_same_plan.ensures.0 yes,
  λ same. c.in_ok-is_same_plan.ensures.1 (c.plan.ensures.value ∙ same),
)
