-- What a copy of an archive is.
use Rattle.std.specs.Prelude.{◌≡◌, [], map, IsTrue}
use Rattle.sqlite.specs.Store.{Ghosts}
use Rattle.sqlite.specs.Effect.{Database}
use Rattle.sqlite.specs.State.{State, HasCleanDisk}
use Rattle.sqlite.specs.Held.{Held, state}
use Rattle.class_plan.specs.Plans.{Listing}
use Rattle.record_archive.specs.Archive.{Archive}
use Rattle.record_tables.specs.Tables.{archive_schema}
use Rattle.record_tables.specs.Rows.{Tables, Stores, AreKeyed}
use Rattle.record_tables.specs.Changes.{Turns}
use Rattle.record_tables.specs.Reads.{hold_entry, numbers_of}
use Rattle.record_tables.specs.CodeRows.{record_of, hold_entry_of, due_of}
use Rattle.record_adoption.specs.Keeping.{StoresArchive, dues_in}
use Rattle.record_copy.specs.NewRows.{HasNoRows, with_rows_of}
use Rattle.record_copy.specs.declared.source.SourceRows.{SourceRows}

-- ---- the theorem

-- an archive with no message, no record and no hold
pub record IsBlank (a : Archive) : Type 0 where
  pub messages : a.messages ≡ []
  pub records : a.records ≡ []
  pub holds : a.holds ≡ []

-- THE DATABASE OF A COPY has the tables of an archive and no others, with the rows of this archive and no others
pub record StoresJust (db : Database) (a : Archive) : Type 0 where
  pub tables : db.schema ≡ archive_schema
  pub rows : StoresArchive db a

-- While both disks are clean and the one database stores the archive of this plan, the other was open, and has that
-- archive in the end if it began with one without records.
abbrev pub Copies : {S T : Type 0} → Ghosts S → Ghosts T → Listing → (from from_after : Held S) → (to to_after : Held T) → Type 0
Copies g h plan from from_after to to_after = HasCleanDisk (state g from_after) → HasCleanDisk (state h to_after) →
    (a : Archive) → a.plan ≡ plan → StoresArchive (state g from).now a → IsTrue (state h to).is_open ×
    ((b : Archive) → StoresArchive (state h to).now b → IsBlank b → StoresJust (state h to_after).now a)

-- ---- its steps

-- what is read are the rows of these tables, and the due days by a plan
pub record TellsTables (plan : Listing) (r : SourceRows) (t : Tables) : Type 0 where
  pub records : map record_of r.records.items ≡ t.records
  pub messages : r.messages.items ≡ numbers_of t
  pub holds : map hold_entry_of r.holds.items ≡ map hold_entry t.holds
  pub dues : map due_of r.dues.items ≡ dues_in plan t.records

-- While its disk is clean, the messages, records and holds that the one database stores and that were read are put into
-- the other, which was open.
abbrev pub Fills : {S : Type 0} → Ghosts S → (from from_after : Held S) → SourceRows → (to to_after : State) → Type 0
Fills g from from_after rows to to_after = HasCleanDisk (state g from_after) → (s : Tables) →
    Stores (state g from).now s → AreKeyed s → (plan : Listing) → TellsTables plan rows s →
    IsTrue to.is_open × Turns to.now to_after.now HasNoRows (with_rows_of s)
