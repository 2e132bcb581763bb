use Rattle.cli_tasks.proofs.DoneLemmas.{planned_as}
use Rattle.cli_tasks.proofs.subcommands.replace_plan.Goals as goal

pub returns : goal.returns
returns g c = planned_as _ _ _ _ c.args.path c.args.is_agreed _ c.change.ensures
