-- The calls of a ledger, as those of a repository.
use Rattle.std.specs.Prelude.{Result, Ok, Err, IfOk, OnErr}
use Rattle.sqlite.specs.Store.{Ghosts}
use Rattle.sqlite.specs.State.{HasCleanDisk}
use Rattle.sqlite.specs.Held.{state}
use Rattle.record_archive.specs.Archive.{Archive}
use Rattle.record_archive.specs.Calls.{CarriesOut, Keeper, Makes}
use Rattle.record_archive.specs.declared.fault.ArchiveFault.{ArchiveFault}
use Rattle.record_archive.specs.declared.fault.ArchiveRefusal.{ArchiveRefusal}
use Rattle.record_choice.specs.Reads.{OnlyReads}
use Rattle.record_store.specs.Faults.{StoreFault}
use Rattle.record_noted.specs.Histories.{StandsTold}
use Rattle.record_noted.specs.Readings.{ReadsWith}
use Rattle.record_noted.specs.declared.store.NotedStore.{NotedStore}

-- what is read of a store with a history
module _ {S X : Type 0} (g : Ghosts S) (old new : NotedStore S) (Answers : Archive → X → Type 0) (Refuses : Archive → ArchiveRefusal → Type 0) where
  pub reads_noted : (result : Result X StoreFault) → ReadsWith g old new result Answers Refuses
      → OnlyReads (λ n. HasCleanDisk (state g n.store.conn)) (StandsTold g) old new
  reads_noted result reads = record { stands = λ a s. (s.0, reads.lines a s.0 s.1, s.2); falls = reads.falls }

  pub tells_noted : (result : Result X StoreFault) → ReadsWith g old new result Answers Refuses
      → IfOk result (λ x. HasCleanDisk (state g new.store.conn) → (a : Archive) → StandsTold g old a → Answers a x)
  tells_noted (Ok x) reads = λ clean a s. reads.tells a s.0 s.1 clean
  tells_noted (Err f) reads = tt

-- a command that is carried out
module _ {A X E : Type 0} (k : Keeper A Archive) (old new : A) (command : Archive → Result Archive ArchiveRefusal)
    (Answers : Archive → X → Type 0) where
  pub carried_done : (result : Result X (ArchiveFault E)) → CarriesOut k old new command Answers result
      → IfOk result (λ x. k.clean new → (a : Archive) → k.stands old a → Makes (k.stands new) (command a))
  carried_done (Ok x) c = λ clean a s. (c.does clean a s).0
  carried_done (Err f) c = tt

  pub carried_failed : (result : Result X (ArchiveFault E)) → CarriesOut k old new command Answers result
      → OnErr result ((a : Archive) → k.stands old a → k.stands new a)
  carried_failed (Ok x) c = tt
  carried_failed (Err f) c = λ a s. (c.does a s).0
