-- What a store reads beside its archive.
use Rattle.std.specs.Prelude.{◌≡◌, true, List, Result, OnOk, IfErr, IsTrue}
use Rattle.std.specs.List.{AllByRecursion}
use Rattle.sqlite.specs.Store.{Ghosts}
use Rattle.sqlite.specs.State.{HasCleanDisk}
use Rattle.sqlite.specs.Held.{state}
use Rattle.record_tables.specs.Events.{Event, StoresEvents}
use Rattle.record_reads.specs.Events.{FitsEvent}
use Rattle.record_archive.specs.Archive.{Archive}
use Rattle.record_archive.specs.Faults.{is_trouble}
use Rattle.record_store.specs.Faults.{StoreFault, is_own}
use Rattle.record_store.specs.Stores.{StandsFor, StaysStill, Falls, LeavesAll}
use Rattle.record_store.specs.declared.store.Store.{Store}

-- A call reads beside the archive: the store represents the same archive, the database is as it was, and a refusal is the
-- world's. Where it succeeds, the connection was open and stays open.
pub record ReadsBeside {S X : Type 0} (g : Ghosts S) (old new : Store S) (result : Result X StoreFault) : Type 0 where
  pub stands : (a : Archive) → StandsFor g old a → StandsFor g new a
  pub still : StaysStill g old new
  pub falls : Falls g old new
  pub «open» : HasCleanDisk (state g new.conn) → OnOk result (IsTrue (state g old.conn).is_open × IsTrue (state g new.conn).is_open)
  pub trouble : IfErr result (λ f. is_trouble f ≡ true)
  pub crash : LeavesAll g old new

-- the store itself refuses only where an event is not one: its number takes more than 32 bits
abbrev pub LosesMisfits : {S X : Type 0} → Ghosts S → (old new : Store S) → Result X StoreFault → Type 0
LosesMisfits g old new result = HasCleanDisk (state g new.conn) → IfErr result (λ f. is_own f ≡ true → (es : List Event) →
    StoresEvents (state g old.conn).now es → AllByRecursion FitsEvent es → ⊥)
