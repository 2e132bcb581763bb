use Rattle.cli_tasks.proofs.DoneLemmas.{on_any, shown_as}
use Rattle.cli_tasks.proofs.subcommands.show.Goals as goal

pub returns : goal.returns
returns g c =
    on_any _ (shown_as g.A.Kept.Store (g.A.Archives.is_at c.args.archives.now c.args.store.now) c.args.record.number
    c.in_ok-message.message.items c.in_ok-message.ensures)
