use Rattle.std.specs.declared.prelude.LibcRuntime.{LibcRuntime}
use Rattle.record_ledger.specs.declared.ledger.Ledger.{Ledger}
use Rattle.cli_history.specs.declared.opening.Purpose.TheVariants.{Ending}
use Rattle.cli_history.specs.declared.seals.Seals.{Seals}
use Rattle.cli_volumes.specs.Names.{path_of}
use Rattle.cli_tasks.specs.Changes.{RefilesFound}
use Rattle.cli_tasks.specs.Commands.{well}
use Rattle.cli_tasks.proofs.DoneLemmas.{told_well}
use Rattle.cli_tasks.proofs.volume_refilings.refile_in.Goals as goal

pub returns : goal.returns
returns g c =
    let asked = c.args.asked in
    told_well g.A.Kept.Store (g.A.Archives.is_at c.args.archives.now (path_of c.args.volumes.folder.now asked.volume)) c.args.told.now
    c.in_ok-author.author c.lend.result Ending
    (λ (old new : Ledger g.row.A-Kept.Denot LibcRuntime) (seals : Seals).
    RefilesFound g.A.Kept.Store old new well asked.to.now c.args.numbers.now asked.choice.now asked.questions.now)
    c.in_ok-author.ensures.told c.lend.ensures
