use Rattle.std.proofs.Common.{ℕ, List, refl}
use Rattle.record_archive.specs.Archive.{Archive}
use Rattle.record_noted.proofs.ReadingLemmas.{lines_read, stands_read}
use Rattle.record_noted.proofs.store.NotedStore.ensure_open.Goals as goal

pub returns-clause-stands : goal.returns-clause-stands
returns-clause-stands g c = λ (a : Archive) s.
    stands_read g.S.Store c.args.self.now (record c.args.self.now { store = c.ensure_open.new.self }) refl refl c.ensure_open.ensures.falls
    c.ensure_open.ensures.still a s (c.ensure_open.ensures.stands a s.1.stands)

pub returns-clause-lines : goal.returns-clause-lines
returns-clause-lines g c = λ (a : Archive) (ls : List (List ℕ)) s.
    lines_read g.S.Store c.args.self.now (record c.args.self.now { store = c.ensure_open.new.self }) refl refl c.ensure_open.ensures.falls
    c.ensure_open.ensures.still a ls s (c.ensure_open.ensures.stands a s.stands)
