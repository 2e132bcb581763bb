-- Lines that are noted beside no change of the archive.
use Rattle.std.specs.Prelude.{◌≡◌, ◌++◌, ℕ, List, Result, Ok, Err, OnOk, IsTrue}
use Rattle.sqlite.specs.Store.{Ghosts}
use Rattle.sqlite.specs.State.{HasCleanDisk, Survives}
use Rattle.sqlite.specs.Tree.{Trees}
use Rattle.sqlite.specs.Held.{state}
use Rattle.record_history.specs.Laws.{Told}
use Rattle.record_archive.specs.Archive.{Archive}
use Rattle.record_archive.specs.Calls.{Quietly, unchanged}
use Rattle.record_store.specs.Faults.{StoreFault}
use Rattle.record_store.specs.Stores.{StandsFor}
use Rattle.record_noted.specs.Histories.{StandsWith, StandsTold, TreesTold, NotesAll, IsTold, IsTrouble, MovesOn}
use Rattle.record_noted.specs.declared.store.NotedStore.{NotedStore}

-- where the call succeeds, the end of the history is moved on by the lines; else it stays
abbrev pub EndsWith : {S X : Type 0} → (old new : NotedStore S) → Result X StoreFault → List (List ℕ) → Type 0
EndsWith old new (Ok x) lines = MovesOn old.next old.mark.items lines new.next new.mark.items
EndsWith old new (Err f) lines = (new.next ≡ old.next) × (new.mark ≡ old.mark)

module _ {S : Type 0} (g : Ghosts S) (old new : NotedStore S) {X : Type 0} (result : Result X StoreFault) where
  -- where the call succeeds, the history explains this archive; and so does whatever a crash leaves that it could not have left
  -- before the call
  pub record Explained (a : Archive) : Type 0 where
    pub does : HasCleanDisk (state g new.store.conn) → OnOk result (StandsTold g new a)
    pub crash : IsTrue (state g old.store.conn).is_open →
        Survives (state g old.store.conn) (state g new.store.conn) (λ (trees : Trees). TreesTold trees a)

  -- THE LINES ARE NOTED behind the others, and the archive stays.
  pub record NotesLines (lines : List (List ℕ)) : Type 0 where
    pub notes : NotesAll g old new result unchanged Quietly lines
    -- where the lines explain the archive together with those before them, whatever these alone explain
    pub explains : (a : Archive) → (ls : List (List ℕ)) → StandsWith g old a ls → Told a (ls ++ lines) → Explained a
    -- where they leave explained what those before them explain
    pub told : ((a : Archive) → (ls : List (List ℕ)) → StandsWith g old a ls → Told a ls → Told a (ls ++ lines)) →
        IsTold g old new result unchanged
    -- the next number and the last mark are those that follow the last line; a refusal leaves both
    pub ends : EndsWith old new result lines
    pub trouble : (a : Archive) → StandsFor g old.store a → IsTrouble result
