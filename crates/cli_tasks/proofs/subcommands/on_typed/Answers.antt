use Rattle.cli_tasks.proofs.DoneLemmas.{typed_as}
use Rattle.cli_tasks.proofs.subcommands.on_typed.Goals as goal

pub returns : goal.returns
returns g c =
    let alone = c.in_ok-choice.ensures in
    typed_as _ _ _ c.args.typed c.in_ok-choice.choice c.args.task.now _ alone.alone alone.none c.on_records.ensures
