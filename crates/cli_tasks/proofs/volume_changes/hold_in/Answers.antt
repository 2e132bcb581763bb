use Rattle.std.proofs.Common.{Ok}
use Rattle.std.specs.declared.prelude.LibcRuntime.{LibcRuntime}
use Rattle.record_ledger.specs.declared.ledger.Ledger.{Ledger}
use Rattle.cli_changes.specs.declared.holds.HoldTally.{HoldTally}
use Rattle.cli_history.specs.declared.seals.Seals.{Seals}
use Rattle.cli_volumes.specs.Names.{path_of}
use Rattle.cli_tasks.specs.Changes.{HoldsFound}
use Rattle.cli_tasks.specs.Purposes.{for_hold}
use Rattle.cli_tasks.proofs.DoneLemmas.{told_as}
use Rattle.cli_tasks.proofs.volume_changes.hold_in.Goals as goal

pub returns : goal.returns
returns g c =
    let hold = c.args.hold in
    told_as g.A.Kept.Store (g.A.Archives.is_at c.args.archives.now (path_of c.args.volumes.folder.now c.args.volume)) c.args.told.now
    c.in_ok-author.author c.lend.result (for_hold hold.change)
    (λ (t : HoldTally) (old new : Ledger g.row.A-Kept.Denot LibcRuntime) (seals : Seals).
    HoldsFound g.A.Kept.Store old new (Ok t) hold.change hold.name.now c.args.choice.now c.args.questions.now)
    c.in_ok-author.ensures.told c.lend.ensures
