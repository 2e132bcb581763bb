use Rattle.cli_tasks.proofs.DoneLemmas.{changed_as}
use Rattle.cli_tasks.proofs.subcommands.change.Goals as goal

pub returns : goal.returns
returns g c =
    changed_as _ _ _ _ _ _ (record { name = c.in_ok-author.ensures.name; reason = c.in_ok-author.ensures.reason }) c.lend.ensures
