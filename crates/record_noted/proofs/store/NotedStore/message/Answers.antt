use Rattle.std.proofs.Common.{refl}
use Rattle.record_noted.proofs.ReadingLemmas.{reads_with}
use Rattle.record_noted.proofs.store.NotedStore.message.Goals as goal

pub returns : goal.returns
returns g c =
    reads_with g.S.Store c.args.self.now (record c.args.self.now { store = c.message.new.self }) refl refl c.message.ensures.falls
    c.message.ensures.still c.message.result _ _ c.message.ensures.tells c.message.ensures.crash
