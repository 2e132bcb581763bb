use Rattle.record_archive.specs.Refiling as archive
use Rattle.record_archive.specs.Calls.{Quietly}
use Rattle.record_store.proofs.AllowedLemmas.{obeys_rows_alone, leaves_alone}
use Rattle.record_store.proofs.store.Store.refile.Goals as goal

pub returns-clause-obeys : goal.returns-clause-obeys
returns-clause-obeys g c =
    obeys_rows_alone g.S.Store c.args.self.now c.refile_with.new.self c.refile_with.result
    (λ a. archive.refile a c.args.number c.args.path.now) Quietly c.refile_with.ensures.obeys

pub returns-clause-crash : goal.returns-clause-crash
returns-clause-crash g c =
    leaves_alone g.S.Store c.args.self.now c.refile_with.new.self (λ a. archive.refile a c.args.number c.args.path.now)
    c.refile_with.ensures.crash
