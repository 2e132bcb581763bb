use Rattle.std.proofs.Common.{refl}
use Rattle.record_noted.proofs.OpeningLemmas.{page_told, page_stands}
use Rattle.record_noted.proofs.store.NotedStore.events.Goals as goal

pub returns-clause-page : goal.returns-clause-page
returns-clause-page g c =
    page_told g.S.Store c.args.self.now (record c.args.self.now { store = c.events_from.new.self }) c.args.from c.args.most c.events_from.result
    c.events_from.ensures.beside c.events_from.ensures.all

pub returns-clause-stands : goal.returns-clause-stands
returns-clause-stands g c =
    page_stands g.S.Store c.args.self.now (record c.args.self.now { store = c.events_from.new.self }) c.events_from.result
    c.events_from.ensures.beside refl refl
