use Rattle.jiff.specs.Words.{epoch_day}
use Rattle.record_archive.specs.Archive as archive
use Rattle.record_archive.specs.Calls.{Quietly}
use Rattle.record_ledger.specs.Ledgers.{keeper_of}
use Rattle.record_ledger.proofs.RepositoryLemmas.{carried_done, carried_failed}
use Rattle.record_ledger.proofs.repository.LedgerRepository.destroy.Goals as goal

pub returns-clause-falls : goal.returns-clause-falls
returns-clause-falls g c = c.destroy.ensures.carries.was_clean

pub returns-clause-done : goal.returns-clause-done
returns-clause-done g c =
    carried_done (keeper_of g.S.Store) c.args.self.now c.destroy.new.self (λ a. archive.destroy_on a c.args.number (epoch_day c.args.day)) Quietly
    c.destroy.result c.destroy.ensures.carries

pub returns-clause-failed : goal.returns-clause-failed
returns-clause-failed g c =
    carried_failed (keeper_of g.S.Store) c.args.self.now c.destroy.new.self (λ a. archive.destroy_on a c.args.number (epoch_day c.args.day)) Quietly
    c.destroy.result c.destroy.ensures.carries
