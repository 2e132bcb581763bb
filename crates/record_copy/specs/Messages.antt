-- Messages that are copied from one database to another.
use Rattle.std.specs.Prelude.{◌≡◌, ℕ, List, Some, Result, Err}
use Rattle.sqlite.specs.Store.{Ghosts}
use Rattle.sqlite.specs.State.{HasCleanDisk}
use Rattle.sqlite.specs.Held.{Held, state}
use Rattle.record_tables.specs.Tables.{IsArchiveSchema}
use Rattle.record_tables.specs.Rows.{Tables, Stores, AreKeyed}
use Rattle.record_tables.specs.Changes.{IsPastMessages, new_message, with_message}
use Rattle.record_tables.specs.Reads.{numbers_of}
use Rattle.record_tables.specs.Steps.{PutsIn}
use Rattle.record_reads.specs.Lookups.{body_with}
use Rattle.record_copy.specs.declared.fault.CopyFault.{CopyFault}
use Rattle.record_copy.specs.declared.fault.CopyFault.TheVariants.{Lost}
use Rattle.record_copy.specs.NewRows.{HasNoMessages, with_messages}

-- the rows of an archive's tables are as they were
abbrev pub KeepsRows : {S : Type 0} → Ghosts S → (old new : Held S) → Type 0
KeepsRows g old new = HasCleanDisk (state g new) → IsArchiveSchema (state g old).now.schema →
    (state g new).now ≡ (state g old).now

-- the message of a number, if the one database stores it, is added to the other
abbrev pub CopiesMessage : {S T : Type 0} → Ghosts S → Ghosts T → (from from_after : Held S) → (to to_after : Held T) → ℕ → Type 0
CopiesMessage g h from from_after to to_after number = HasCleanDisk (state g from_after) → (s : Tables) →
    Stores (state g from).now s → AreKeyed s → (body : List ℕ) → body_with number s ≡ Some body →
    PutsIn h to to_after (IsPastMessages number) (with_message (new_message number body))

-- the messages of the one database, whose numbers are these, are put into the other
abbrev pub CopiesMessages : {S T : Type 0} → Ghosts S → Ghosts T → (from from_after : Held S) → (to to_after : Held T) →
    List ℕ → Type 0
CopiesMessages g h from from_after to to_after numbers = HasCleanDisk (state g from_after) → (s : Tables) →
    Stores (state g from).now s → AreKeyed s → numbers ≡ numbers_of s →
    PutsIn h to to_after HasNoMessages (with_messages s.messages)

-- a row is lost only if, while the disk is clean, this holds of the database
abbrev pub LosesWhere : {S T : Type 0} → Ghosts S → (from from_after : Held S) → Result T CopyFault → (Tables → Type 0) → Type 0
LosesWhere g from from_after result Where = HasCleanDisk (state g from_after) → result ≡ Err Lost → (s : Tables) →
    Stores (state g from).now s → AreKeyed s → Where s
