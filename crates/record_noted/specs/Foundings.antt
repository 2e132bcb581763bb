-- A history that begins with events.
use Rattle.std.specs.Prelude.{◌≡◌, ◌+◌, ℕ, List, length}
use Rattle.sqlite.specs.Store.{Ghosts}
use Rattle.sqlite.specs.State.{HasCleanDisk}
use Rattle.sqlite.specs.Held.{state}
use Rattle.record_tables.specs.Events.{StoresEvents}
use Rattle.record_history.specs.Chain.{chain}
use Rattle.record_archive.specs.Archive.{Archive}
use Rattle.record_store.specs.Stores.{StandsFor}
use Rattle.record_store.specs.declared.store.Store.{Store}
use Rattle.record_noted.specs.Histories.{rows_of}

-- the store stands for the archive, its history is of these lines, and this comes next
pub record IsLaid {S : Type 0} (g : Ghosts S) (store : Store S) (a : Archive) (ls : List (List ℕ)) (next : ℕ) (mark : List ℕ) : Type 0 where
  pub stands : StandsFor g store a
  pub next_is : next ≡ length ls + 1
  pub mark_is : mark ≡ chain ls
  pub lines : HasCleanDisk (state g store.conn) → StoresEvents (state g store.conn).now (rows_of ls)
