use Rattle.record_archive.specs.Archive as archive
use Rattle.record_archive.specs.Calls.{Quietly}
use Rattle.record_store.proofs.AllowedLemmas.{obeys_rows_alone, leaves_alone}
use Rattle.record_store.proofs.store.Store.release.Goals as goal

pub returns-clause-obeys : goal.returns-clause-obeys
returns-clause-obeys g c =
    obeys_rows_alone g.S.Store c.args.self.now c.release_with.new.self c.release_with.result (λ a. archive.release a c.args.name.now c.args.number)
    Quietly c.release_with.ensures.obeys

pub returns-clause-crash : goal.returns-clause-crash
returns-clause-crash g c =
    leaves_alone g.S.Store c.args.self.now c.release_with.new.self (λ a. archive.release a c.args.name.now c.args.number) c.release_with.ensures.crash
