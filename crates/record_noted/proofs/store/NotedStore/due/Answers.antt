use Rattle.std.proofs.Common.{refl}
use Rattle.record_archive.specs.Archive.{Archive}
use Rattle.record_noted.proofs.ReadingLemmas.{reads_with}
use Rattle.record_noted.proofs.store.NotedStore.due.Goals as goal

pub returns-clause-reads : goal.returns-clause-reads
returns-clause-reads g c =
    reads_with g.S.Store c.args.self.now (record c.args.self.now { store = c.due.new.self }) refl refl c.due.ensures.falls
    c.due.ensures.still c.due.result _ _ c.due.ensures.tells c.due.ensures.crash

pub returns-clause-open : goal.returns-clause-open
returns-clause-open g c = λ (a : Archive) s. c.due.ensures.open a s.1.stands
