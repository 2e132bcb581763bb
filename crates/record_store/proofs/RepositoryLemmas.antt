-- The calls of a store, as those of a repository.
use Rattle.std.specs.Prelude.{Result, Ok, Err, IfOk, OnErr}
use Rattle.sqlite.specs.Store.{Ghosts}
use Rattle.sqlite.specs.State.{HasCleanDisk}
use Rattle.sqlite.specs.Held.{state}
use Rattle.record_archive.specs.Archive.{Archive}
use Rattle.record_archive.specs.Calls.{Makes, Quietly}
use Rattle.record_archive.specs.declared.fault.ArchiveRefusal.{ArchiveRefusal}
use Rattle.record_store.specs.Faults.{StoreFault}
use Rattle.record_store.specs.Stores.{ObeysRows, StandsFor, Tells}
use Rattle.record_store.specs.declared.store.Store.{Store}
use Rattle.record_store.proofs.RecordsLemmas.{made}

module _ {S X : Type 0} (g : Ghosts S) (old new : Store S) (Answers : Archive → X → Type 0) (Refuses : Archive → ArchiveRefusal → Type 0) where
  pub told_stands : (result : Result X StoreFault) → Tells g old new result Answers Refuses → (a : Archive) → StandsFor g old a → StandsFor g new a
  told_stands (Ok x) tells = λ a s. (tells a s).0
  told_stands (Err f) tells = λ a s. (tells a s).0

  pub told_answers : (result : Result X StoreFault) → Tells g old new result Answers Refuses
      → IfOk result (λ x. HasCleanDisk (state g new.conn) → (a : Archive) → StandsFor g old a → Answers a x)
  told_answers (Ok x) tells = λ clean a s. (tells a s).1 clean
  told_answers (Err f) tells = tt

module _ {S X : Type 0} (g : Ghosts S) (old new : Store S) (command : Archive → Result Archive ArchiveRefusal) where
  pub done_makes : (result : Result X StoreFault) → ObeysRows g old new result command Quietly
      → IfOk result (λ x. HasCleanDisk (state g new.conn) → (a : Archive) → StandsFor g old a → Makes (StandsFor g new) (command a))
  done_makes (Ok x) obeys = λ clean a s. made g new (command a) (obeys clean a s).0
  done_makes (Err f) obeys = tt

  pub failed_stands : (result : Result X StoreFault) → ObeysRows g old new result command Quietly
      → OnErr result ((a : Archive) → StandsFor g old a → StandsFor g new a)
  failed_stands (Ok x) obeys = tt
  failed_stands (Err f) obeys = λ a s. (obeys a s).0
