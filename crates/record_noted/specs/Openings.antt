-- A history that is opened, and its rows as they are read.
use Rattle.std.specs.Prelude.{◌≡◌, ℕ, ◌+◌, ◌<◌, nat_lt, if◌then◌else◌, List, [], length, Option, Some, None, codes}
use Rattle.sqlite.specs.Store.{Ghosts}
use Rattle.sqlite.specs.State.{HasCleanDisk}
use Rattle.sqlite.specs.Held.{state}
use Rattle.record_tables.specs.Events.{Event as Row, StoresEvents}
use Rattle.record_tables.specs.Tables.{Lacks}
use Rattle.record_history.specs.Laws.{Told}
use Rattle.record_archive.specs.Archive.{Archive}
use Rattle.record_store.specs.Stores.{StandsFor, LeavesAll}
use Rattle.record_store.specs.declared.store.Store.{Store}
use Rattle.record_noted.specs.Histories.{rows_of, StandsWith, StandsTold}
use Rattle.record_noted.specs.declared.store.NotedStore.{NotedStore}
use Rattle.record_noted.specs.declared.opening.Opened.{Opened}
use Rattle.record_noted.specs.declared.opening.Opened.TheVariants.{Noted, Plain}
use Rattle.record_noted.specs.declared.opening.OpenFault.{OpenFault}
use Rattle.record_noted.specs.declared.opening.OpenFault.TheVariants.{NoHistory}

-- the number after the last event and the mark of that event; no number comes after 4,294,967,295
abbrev pub end_after : Option Row → Option (ℕ × List ℕ)
end_after None = Some (1, [])
end_after (Some e) = if nat_lt e.number 4294967295 then Some (e.number + 1, e.mark) else None

module _ {S : Type 0} (g : Ghosts S) (store : Store S) where
  -- The history that is opened is the one that the database has, whatever its lines are; and where these explain the archive,
  -- the store stands for it in this way too. A crash leaves what it might have left before.
  pub record OpensHistory (noted : NotedStore S) : Type 0 where
    pub stands : HasCleanDisk (state g noted.store.conn) → (a : Archive) → (ls : List (List ℕ)) → StandsFor g store a →
        StoresEvents (state g store.conn).now (rows_of ls) → StandsWith g noted a ls
    pub told : HasCleanDisk (state g noted.store.conn) → (a : Archive) → (ls : List (List ℕ)) → StandsFor g store a →
        StoresEvents (state g store.conn).now (rows_of ls) → Told a ls → StandsTold g noted a
    pub crash : LeavesAll g store noted.store

  -- where there is a table of events, its history is opened; and else the store is as it was
  abbrev pub Opens : Opened S → Type 0
  Opens (Noted noted) = OpensHistory noted
  Opens (Plain same) = (same ≡ store) × Lacks (state g store.conn).now.schema (codes "event")

  -- The store that a refusal returns stands for the same archive. No history is found only where the database has no rows of
  -- fewer than 4,294,967,295 lines.
  pub record RefusesToOpen (fault : OpenFault) (left : Store S) : Type 0 where
    pub stands : (a : Archive) → StandsFor g store a → StandsFor g left a
    pub none : HasCleanDisk (state g left.conn) → fault ≡ NoHistory → (ls : List (List ℕ)) → length ls < 4294967295 →
        StoresEvents (state g store.conn).now (rows_of ls) → ⊥
    pub crash : LeavesAll g store left
