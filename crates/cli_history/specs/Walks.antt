-- A walk over the rows of a history or over records, a page at a time, and calls that only look at a store.
use Rattle.std.specs.Prelude.{◌≡◌, ◌+◌, ◌-◌, ◌<◌, ◌++◌, nat_lt, if◌then◌else◌, ℕ, List, [], map, drop, length, Vec, IsTrue}
use Rattle.std.specs.Prelude.{Option, Some, None, option_and_then, IfSome}
use Rattle.std.specs.declared.alloc.Global.{Global}
use Rattle.sqlite.specs.Store.{Ghosts}
use Rattle.sqlite.specs.State.{HasCleanDisk}
use Rattle.sqlite.specs.Held.{state}
use Rattle.record_tables.specs.Events.{Event as Row, StoresEvents}
use Rattle.record_reads.specs.Events.{event_of, last_of}
use Rattle.record_reads.specs.declared.events.EventRow.{EventRow}
use Rattle.record_archive.specs.Archive.{Archive}
use Rattle.record_choice.specs.Entries.{entry_of, entry_view}
use Rattle.record_choice.specs.Walks.{records_after}
use Rattle.record_choice.specs.declared.entry.RecordEntry.{RecordEntry}
use Rattle.record_store.specs.Stores.{Falls, StandsFor, StaysStill}
use Rattle.record_store.specs.declared.store.Store.{Store}
use Rattle.record_noted.specs.Histories.{KeepsLines, StandsWith, rows_of}
use Rattle.record_noted.specs.declared.store.NotedStore.{NotedStore}

-- the number after that of a row, if one is left
abbrev pub next_number : Row → Option ℕ
next_number r = if nat_lt r.number 4294967295 then Some (r.number + 1) else None

-- the number after that of the last row of a page
abbrev pub number_behind : List Row → Option ℕ
number_behind page = option_and_then next_number (last_of page)

-- the rows of a history that are left, from a number on
abbrev pub rows_left : List Row → (from : Option ℕ) → List Row
rows_left rows None = []
rows_left rows (Some from) = drop (from - 1) rows

-- the walk stood at a number, and goes on with a greater one of 32 bits, if it does
pub record Advances (before after : Option ℕ) : Type 0 where
  pub number : ℕ
  pub stood : before ≡ Some number
  pub later : IfSome after (λ n. (number < n) × (n < 4294967296))

-- THE NEXT PAGE: it has the first of the rows that are left, and the walk goes on behind them; or no row is left
pub record GoesOn (rows : List Row) (before after : Option ℕ) (page : List Row) : Type 0 where
  pub joined : rows_left rows before ≡ page ++ rows_left rows after
  pub advances : Advances before after

abbrev pub IsNextPage : List Row → (before after : Option ℕ) → Option (Vec EventRow Global) → Type 0
IsNextPage rows before after None = rows_left rows before ≡ []
IsNextPage rows before after (Some page) = GoesOn rows before after (map event_of page.items)

-- THE NEXT RECORDS of an archive, in the same way
pub record GoesOnIn (a : Archive) (before after : Option ℕ) (page : List RecordEntry) : Type 0 where
  pub joined : map (entry_of a) (records_after a before) ≡ map entry_view page ++ map (entry_of a) (records_after a after)
  pub advances : Advances before after

abbrev pub IsNextEntries : Archive → (before after : Option ℕ) → Option (Vec RecordEntry Global) → Type 0
IsNextEntries a before after None = records_after a before ≡ []
IsNextEntries a before after (Some page) = GoesOnIn a before after page.items

-- A CALL ONLY LOOKS: the store stands for the same archive beside the very same lines, and a disk that is clean after the call
-- was clean before it
pub record Looks {S : Type 0} (g : Ghosts S) (old new : NotedStore S) : Type 0 where
  pub lines : KeepsLines g old new
  pub falls : Falls g old.store new.store

-- the same of a store whose history was not opened: it stands for the same archive, and while its connection is open, its database
-- is as it was
pub record Glances {S : Type 0} (g : Ghosts S) (old new : Store S) : Type 0 where
  pub stands : (a : Archive) → StandsFor g old a → StandsFor g new a
  pub still : StaysStill g old new
  pub falls : Falls g old new

-- the store's database has a table of events with the rows of these lines, of which there are at most 4,294,967,294
pub record KeepsLinesIn {S : Type 0} (g : Ghosts S) (store : Store S) (ls : List (List ℕ)) : Type 0 where
  pub few : length ls < 4294967295
  pub rows : StoresEvents (state g store.conn).now (rows_of ls)

-- the same while its connection is open
pub record HasLines {S : Type 0} (g : Ghosts S) (store : Store S) (ls : List (List ℕ)) : Type 0 where
  pub few : length ls < 4294967295
  pub rows : IsTrue (state g store.conn).is_open → StoresEvents (state g store.conn).now (rows_of ls)

-- FOR THE ARCHIVE for which the store stood before a call, beside these lines, this holds, where the disk is clean after it
abbrev pub ForArchive : {S : Type 0} → Ghosts S → (old new : NotedStore S) → (Archive → List (List ℕ) → Type 0) → Type 0
ForArchive g old new Holds = HasCleanDisk (state g new.store.conn) → (a : Archive) → (ls : List (List ℕ)) → StandsWith g old a ls → Holds a ls
