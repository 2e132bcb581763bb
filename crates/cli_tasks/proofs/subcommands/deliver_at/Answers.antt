use Rattle.sqlite.specs.Held.{Held}
use Rattle.record_store.specs.declared.store.Store.{Store}
use Rattle.cli_changes.specs.declared.deliver.Delivered.{Delivered}
use Rattle.cli_tasks.specs.Deliveries.{Delivers}
use Rattle.cli_tasks.proofs.CaptureLaws.{told_in}
use Rattle.cli_tasks.proofs.subcommands.deliver_at.Goals as goal

pub returns : goal.returns
returns g c =
    let it = c.args.work in
    let volumes = it.earlier.volumes in
    told_in (g.A.Archives.is_at c.args.archives.now c.args.path.now)
    (λ (before : Store g.row.A-Kept.Denot) (d : Delivered) (after : Held g.row.A-Kept.Denot).
    Delivers g.A.Kept.Store (g.A.Archives.is_at it.earlier.archives.now) g.A.Kept.Store volumes.folder.now volumes.last it.author it.rules
    it.timing it.message before d after) c.in-Ok.lent.0 c.in_ok-settled.field-0 c.in_ok-settled.ensures.done c.in-Ok.ensures
