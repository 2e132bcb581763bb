use Rattle.std.proofs.Common.{◌≡◌}
use Rattle.std.specs.declared.prelude.LibcRuntime.{LibcRuntime}
use Rattle.record_ledger.specs.declared.ledger.Ledger.{Ledger}
use Rattle.cli_history.specs.declared.opening.Purpose.TheVariants.{Ending}
use Rattle.cli_history.specs.declared.seals.Seals.{Seals}
use Rattle.cli_volumes.specs.Names.{path_of}
use Rattle.cli_tasks.proofs.DoneLemmas.{told_well}
use Rattle.cli_tasks.proofs.volume_endings.judge_ending_in.Goals as goal

pub returns : goal.returns
returns g c =
    told_well g.A.Kept.Store (g.A.Archives.is_at c.args.archives.now (path_of c.args.volumes.folder.now c.args.volume)) c.args.told.now
    c.in_ok-author.author c.lend.result Ending (λ (old new : Ledger g.row.A-Kept.Denot LibcRuntime) (seals : Seals). new ≡ old)
    c.in_ok-author.ensures.told c.lend.ensures
