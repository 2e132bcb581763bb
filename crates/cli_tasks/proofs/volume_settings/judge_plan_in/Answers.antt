use Rattle.std.specs.declared.prelude.LibcRuntime.{LibcRuntime}
use Rattle.record_ledger.specs.declared.ledger.Ledger.{Ledger}
use Rattle.record_store.specs.declared.store.Store.{Store}
use Rattle.cli_history.specs.declared.seals.Seals.{Seals}
use Rattle.cli_volumes.specs.Names.{path_of}
use Rattle.cli_tasks.specs.Changes.{JudgesPlan}
use Rattle.cli_tasks.specs.Commands.{well}
use Rattle.cli_tasks.specs.Purposes.{for_plan}
use Rattle.cli_tasks.proofs.DoneLemmas.{told_for}
use Rattle.cli_tasks.proofs.volume_settings.judge_plan_in.Goals as goal

pub returns : goal.returns
returns g c =
    told_for g.A.Kept.Store (g.A.Archives.is_at c.args.archives.now (path_of c.args.volumes.folder.now c.args.volume)) c.args.told.now
    c.in_ok-author.author c.lend.result (λ (before : Store g.row.A-Kept.Denot). for_plan before.plan c.args.plan.now)
    (λ (old new : Ledger g.row.A-Kept.Denot LibcRuntime) (seals : Seals). JudgesPlan g.A.Kept.Store old new well c.args.plan.now)
    c.in_ok-author.ensures.told c.lend.ensures
