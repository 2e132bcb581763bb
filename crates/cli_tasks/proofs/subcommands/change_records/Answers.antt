use Rattle.cli_tasks.proofs.DoneLemmas.{chosen_as}
use Rattle.cli_tasks.proofs.subcommands.change_records.Goals as goal

pub returns : goal.returns
returns g c =
    let asked = c.in_ok-judge_choice.ensures in
    chosen_as _ _ _ c.args.chosen c.args.choice _ _ (record { test = asked.test; fields = asked.fields }) c.change.ensures
