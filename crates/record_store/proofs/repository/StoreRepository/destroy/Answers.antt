use Rattle.record_store.proofs.RepositoryLemmas.{done_makes, failed_stands}
use Rattle.record_store.proofs.repository.StoreRepository.destroy.Goals as goal

pub returns-clause-done : goal.returns-clause-done
returns-clause-done g c = done_makes g.S.Store c.args.self.now c.destroy.new.self _ c.destroy.result c.destroy.ensures.obeys

pub returns-clause-failed : goal.returns-clause-failed
returns-clause-failed g c = failed_stands g.S.Store c.args.self.now c.destroy.new.self _ c.destroy.result c.destroy.ensures.obeys
