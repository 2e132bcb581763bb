use Rattle.std.proofs.Common.{◌∙◌}
use Rattle.record_archive.specs.Archive.{Archive}
use Rattle.record_ledger.specs.Ledgers.{kept_plan}
use Rattle.record_ledger.proofs.repository.LedgerRepository.plan.Goals as goal

pub returns : goal.returns
returns g c = λ (a : Archive) s. c.plan_kept.ensures ∙ kept_plan g.S.Store c.args.self.now.kept a s
