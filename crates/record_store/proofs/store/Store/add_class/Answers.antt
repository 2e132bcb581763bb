use Rattle.record_archive.specs.Archive as archive
use Rattle.record_archive.specs.Calls.{Quietly}
use Rattle.record_store.proofs.AllowedLemmas.{obeys_alone, leaves_alone}
use Rattle.record_store.proofs.store.Store.add_class.Goals as goal

pub returns-clause-obeys : goal.returns-clause-obeys
returns-clause-obeys g c =
    obeys_alone g.S.Store c.args.self.now c.add_class_with.new.self c.add_class_with.result (λ a. archive.add_class a c.args.path.now)
    Quietly c.add_class_with.ensures.obeys

pub returns-clause-crash : goal.returns-clause-crash
returns-clause-crash g c =
    leaves_alone g.S.Store c.args.self.now c.add_class_with.new.self (λ a. archive.add_class a c.args.path.now) c.add_class_with.ensures.crash
