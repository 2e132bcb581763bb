use Rattle.std.proofs.Common.{rules}
use Rattle.record_store.proofs.RepositoryLemmas.{told_stands, told_answers}
use Rattle.record_store.proofs.repository.StoreRepository.entries.Goals as goal

pub returns-clause-reads : goal.returns-clause-reads
returns-clause-reads g c = record {
  stands = told_stands g.S.Store c.args.self.now c.entries.new.self _ _ c.entries.result c.entries.ensures.tells;
  falls = search rules;
}

pub returns-clause-told : goal.returns-clause-told
returns-clause-told g c = told_answers g.S.Store c.args.self.now c.entries.new.self _ _ c.entries.result c.entries.ensures.tells
