use Rattle.cli_tasks.proofs.DoneLemmas.{disposed_as}
use Rattle.cli_tasks.proofs.subcommands.dispose.Goals as goal

pub returns : goal.returns
returns g c =
    disposed_as _ _ _ c.in_ok-author.author c.args.asked c.in_ok-typed.typed c.in_ok-asked.asked c.in_ok-day.day c.lend.result
    c.in_ok-author.ensures c.in_ok-typed.ensures c.in_ok-asked.ensures.none c.in_ok-asked.ensures.alone c.in_ok-day.ensures.typed c.lend.ensures
