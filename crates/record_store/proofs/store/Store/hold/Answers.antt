use Rattle.record_archive.specs.Archive as archive
use Rattle.record_archive.specs.Calls.{Quietly}
use Rattle.record_store.proofs.AllowedLemmas.{obeys_rows_alone, leaves_alone}
use Rattle.record_store.proofs.store.Store.hold.Goals as goal

pub returns-clause-obeys : goal.returns-clause-obeys
returns-clause-obeys g c =
    obeys_rows_alone g.S.Store c.args.self.now c.hold_with.new.self c.hold_with.result (λ a. archive.hold a c.args.name.now c.args.number)
    Quietly c.hold_with.ensures.obeys

pub returns-clause-crash : goal.returns-clause-crash
returns-clause-crash g c =
    leaves_alone g.S.Store c.args.self.now c.hold_with.new.self (λ a. archive.hold a c.args.name.now c.args.number) c.hold_with.ensures.crash
