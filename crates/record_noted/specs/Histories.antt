-- A store beside which a history is kept, and what its calls promise.
use Rattle.std.specs.Prelude.{◌≡◌, ◌+◌, ℕ, List, [], ◌∷◌, ◌++◌, length, true, Result, Ok, Err, OnOk, IfErr, IsTrue}
use Rattle.sqlite.specs.Store.{Ghosts}
use Rattle.sqlite.specs.State.{HasCleanDisk, Survives}
use Rattle.sqlite.specs.Tree.{Trees}
use Rattle.sqlite.specs.Held.{state}
use Rattle.record_tables.specs.Events.{Event as Row, new_event, StoresEvents}
use Rattle.record_history.specs.Chain.{mark_after, chain, chain_from}
use Rattle.record_history.specs.Events.{Event, Deed}
use Rattle.record_history.specs.Lines.{line_of}
use Rattle.record_history.specs.Laws.{Told}
use Rattle.record_archive.specs.Archive.{Archive}
use Rattle.record_archive.specs.Calls.{Makes, KeepsMade}
use Rattle.record_archive.specs.Faults.{WhereRefused, is_trouble}
use Rattle.record_archive.specs.declared.fault.ArchiveRefusal.{ArchiveRefusal}
use Rattle.record_store.specs.Faults.{StoreFault}
use Rattle.record_store.specs.Stores.{StandsFor, TreesKeep, Falls}
use Rattle.record_noted.specs.declared.store.NotedStore.{NotedStore}

-- the rows of lines, numbered upwards, each with its mark
abbrev pub rows_from : ℕ → (mark : List ℕ) → List (List ℕ) → List Row
rows_from n mark [] = []
rows_from n mark (l ∷ ls) = new_event n l (mark_after mark l) ∷ rows_from (n + 1) (mark_after mark l) ls

abbrev pub rows_of : List (List ℕ) → List Row
rows_of ls = rows_from 1 [] ls

-- the number and the mark that follow these lines, where these are those before them
pub record MovesOn (next : ℕ) (mark : List ℕ) (lines : List (List ℕ)) (then_next : ℕ) (then_mark : List ℕ) : Type 0 where
  pub next_is : then_next ≡ next + length lines
  pub mark_is : then_mark ≡ chain_from mark lines

-- a refusal comes from the world: of the database (89), or for no memory (99)
abbrev pub IsTrouble : {X : Type 0} → Result X StoreFault → Type 0
IsTrouble result = IfErr result (λ f. is_trouble f ≡ true)

-- The store represents the archive, and beside it the history of these lines. Beside the connection it keeps the number of
-- the next line and the mark of the last.
pub record StandsWith {S : Type 0} (g : Ghosts S) (noted : NotedStore S) (a : Archive) (ls : List (List ℕ)) : Type 0 where
  pub stands : StandsFor g noted.store a
  pub next : noted.next ≡ length ls + 1
  pub mark : noted.mark.items ≡ chain ls
  pub lines : HasCleanDisk (state g noted.store.conn) → IsTrue (state g noted.store.conn).is_open →
      StoresEvents (state g noted.store.conn).now (rows_of ls)

-- these trees are those of a sound database that stores the archive with this history
pub record TreesKeepWith (trees : Trees) (a : Archive) (ls : List (List ℕ)) : Type 0 where
  pub kept : TreesKeep trees a
  pub lines : StoresEvents kept.db (rows_of ls)

-- beside whichever lines the store stood for an archive, it stands for it beside the very same lines
abbrev pub KeepsLines : {S : Type 0} → Ghosts S → (old new : NotedStore S) → Type 0
KeepsLines g old new = (a : Archive) → (ls : List (List ℕ)) → StandsWith g old a ls → StandsWith g new a ls

-- THE STORE STANDS FOR THE ARCHIVE, beside a history that explains it
abbrev pub StandsTold : {S : Type 0} → Ghosts S → NotedStore S → Archive → Type 0
StandsTold g noted a = (ls : List (List ℕ)) × StandsWith g noted a ls × Told a ls

-- these trees keep the archive, beside a history that explains it
abbrev pub TreesTold : Trees → Archive → Type 0
TreesTold trees a = (ls : List (List ℕ)) × TreesKeepWith trees a ls × Told a ls

module _ {S : Type 0} (g : Ghosts S) (old new : NotedStore S) where
  abbrev pub Becomes : Result Archive ArchiveRefusal → List (List ℕ) → Type 0
  Becomes (Ok b) ls = StandsWith g new b ls
  Becomes (Err f) ls = ⊥

  -- A call carries out a command of the archive. Where it succeeds, the history has these lines more, and nothing else. Where
  -- it is refused, neither archive nor history has changed, and the refusal is the command's or the world's.
  abbrev pub Obeys : {X : Type 0} → Result X StoreFault → (Archive → Result Archive ArchiveRefusal) → (Archive → X → Type 0) →
      (lines : List (List ℕ)) → Type 0
  Obeys (Ok x) command Answers lines = HasCleanDisk (state g new.store.conn) → (a : Archive) → (ls : List (List ℕ)) →
      StandsWith g old a ls → Becomes (command a) (ls ++ lines) × Answers a x
  Obeys (Err f) command Answers lines = (a : Archive) → (ls : List (List ℕ)) → StandsWith g old a ls → StandsWith g new a ls ×
      (HasCleanDisk (state g new.store.conn) → WhereRefused (λ r. command a ≡ Err r) f)

  -- What a crash in the call may leave on an open connection: what a crash might have left before it, or the command's archive
  -- with the history that has the lines more. So none is there without the other.
  abbrev pub Leaves : (Archive → Result Archive ArchiveRefusal) → (lines : List (List ℕ)) → Type 0
  Leaves command lines = (a : Archive) → (ls : List (List ℕ)) → StandsWith g old a ls → IsTrue (state g old.store.conn).is_open →
      Survives (state g old.store.conn) (state g new.store.conn)
      (λ (trees : Trees). KeepsMade (λ image b. TreesKeepWith image b (ls ++ lines)) trees (command a))

  -- A call carries out a command of the archive, and notes it by these lines. What is clean after it was clean before, and
  -- where it succeeds the connection is open.
  pub record NotesAll {X : Type 0} (result : Result X StoreFault) (command : Archive → Result Archive ArchiveRefusal)
      (Answers : Archive → X → Type 0) (lines : List (List ℕ)) : Type 0 where
    pub was_clean : Falls g old.store new.store
    pub obeys : Obeys result command Answers lines
    pub «open» : HasCleanDisk (state g new.store.conn) → OnOk result (IsTrue (state g new.store.conn).is_open)
    pub crash : Leaves command lines

  -- the same by one line
  abbrev pub Notes : {X : Type 0} → Result X StoreFault → (Archive → Result Archive ArchiveRefusal) → (Archive → X → Type 0) →
      (line : List ℕ) → Type 0
  Notes result command Answers line = NotesAll result command Answers (line ∷ [])

  -- The same where the history explains the archive: afterwards it explains the one that the command makes, whatever a crash
  -- leaves.
  abbrev pub DoesTold : {X : Type 0} → Result X StoreFault → (Archive → Result Archive ArchiveRefusal) → Type 0
  DoesTold (Ok x) command = HasCleanDisk (state g new.store.conn) → (a : Archive) → StandsTold g old a → Makes (StandsTold g new) (command a)
  DoesTold (Err f) command = (a : Archive) → StandsTold g old a → StandsTold g new a ×
      (HasCleanDisk (state g new.store.conn) → WhereRefused (λ r. command a ≡ Err r) f)

  abbrev pub LeavesTold : (Archive → Result Archive ArchiveRefusal) → Type 0
  LeavesTold command = (a : Archive) → StandsTold g old a → IsTrue (state g old.store.conn).is_open →
      Survives (state g old.store.conn) (state g new.store.conn) (λ (trees : Trees). KeepsMade TreesTold trees (command a))

  pub record IsTold {X : Type 0} (result : Result X StoreFault) (command : Archive → Result Archive ArchiveRefusal) : Type 0 where
    pub does : DoesTold result command
    pub crash : LeavesTold command

-- the line is that of an event of this deed, under the store's next number
pub record IsLineOf {S : Type 0} (noted : NotedStore S) (line : List ℕ) (deed : Deed) (e : Event) : Type 0 where
  pub line_is : line ≡ line_of noted.next e
  pub deed_is : e.deed ≡ deed
