use Rattle.cli_tasks.proofs.DoneLemmas.{on_any}
use Rattle.cli_tasks.proofs.subcommands.why.Goals as goal

pub returns : goal.returns
returns g c = on_any _ c.in_ok-captured.ensures
