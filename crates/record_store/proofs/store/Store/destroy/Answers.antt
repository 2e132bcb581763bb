use Rattle.jiff.specs.Words.{epoch_day}
use Rattle.record_archive.specs.Archive as archive
use Rattle.record_archive.specs.Calls.{Quietly}
use Rattle.record_store.proofs.AllowedLemmas.{obeys_rows_alone, leaves_alone}
use Rattle.record_store.proofs.store.Store.destroy.Goals as goal

pub returns-clause-obeys : goal.returns-clause-obeys
returns-clause-obeys g c =
    obeys_rows_alone g.S.Store c.args.self.now c.destroy_with.new.self c.destroy_with.result
    (λ a. archive.destroy_on a c.args.number (epoch_day c.args.day)) Quietly c.destroy_with.ensures.obeys

pub returns-clause-crash : goal.returns-clause-crash
returns-clause-crash g c =
    leaves_alone g.S.Store c.args.self.now c.destroy_with.new.self (λ a. archive.destroy_on a c.args.number (epoch_day c.args.day))
    c.destroy_with.ensures.crash
