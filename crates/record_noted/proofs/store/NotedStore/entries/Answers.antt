use Rattle.std.proofs.Common.{refl}
use Rattle.record_noted.proofs.ReadingLemmas.{reads_with}
use Rattle.record_noted.proofs.store.NotedStore.entries.Goals as goal

pub returns : goal.returns
returns g c =
    reads_with g.S.Store c.args.self.now (record c.args.self.now { store = c.entries.new.self }) refl refl c.entries.ensures.falls
    c.entries.ensures.still c.entries.result _ _ c.entries.ensures.tells c.entries.ensures.crash
