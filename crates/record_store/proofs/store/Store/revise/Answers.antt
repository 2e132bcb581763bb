use Rattle.record_archive.specs.Archive as archive
use Rattle.record_archive.specs.Calls.{Quietly}
use Rattle.record_store.proofs.AllowedLemmas.{obeys_rows_alone, leaves_alone}
use Rattle.record_store.proofs.store.Store.revise.Goals as goal

pub returns-clause-obeys : goal.returns-clause-obeys
returns-clause-obeys g c =
    obeys_rows_alone g.S.Store c.args.self.now c.revise_with.new.self c.revise_with.result (λ a. archive.revise a c.args.plan)
    Quietly c.revise_with.ensures.obeys

pub returns-clause-crash : goal.returns-clause-crash
returns-clause-crash g c =
    leaves_alone g.S.Store c.args.self.now c.revise_with.new.self (λ a. archive.revise a c.args.plan) c.revise_with.ensures.crash
