-- The rows of the tables, with types, and what a database stores.
use Rattle.std.specs.Prelude.{◌≡◌, map, ℕ, ℤ, pos, Bool, if◌then◌else◌, List, [], ◌∷◌, Option}
use Rattle.sqlite.specs.declared.types.Value.TheVariants.{Null, Int, Text as Words, Blob as Octets}
use Rattle.sqlite.specs.Order.{Row}
use Rattle.sqlite_typed.specs.Columns.{or_null}
use Rattle.sqlite_keyed.specs.Keyed.{IsKeyedBy}
use Rattle.sqlite.specs.Effect.{Database}
use Rattle.record_items.specs.Items.{Message, Record}
use Rattle.record_tables.specs.Tables.{IsArchiveSchema, HasCommonTables, IsFirstSchema}

pub record Hold : Type 0 where
  pub id : ℤ
  pub name : List ℕ
  pub number : ℕ

-- a row of `meta`
pub record Setting : Type 0 where
  pub id : ℤ
  pub key : List ℕ
  pub value : List ℕ

pub record Class : Type 0 where
  pub id : ℤ
  pub path : List ℕ
  pub is_open : Bool
  pub schedule : Option (List ℕ)

-- a row of `schedule`; the path of the plan's own schedule is empty
pub record Schedule : Type 0 where
  pub id : ℤ
  pub path : List ℕ
  pub count : ℕ
  pub unit : ℕ
  pub action : ℕ
  pub year_end : ℕ

pub record Due : Type 0 where
  pub number : ℕ
  pub day : ℕ

-- the rows of each table, in the order of their rowids
pub record Tables : Type 0 where
  pub messages : List Message
  pub records : List Record
  pub holds : List Hold
  pub settings : List Setting
  pub classes : List Class
  pub schedules : List Schedule
  pub dues : List Due

abbrev pub as_flag : Bool → ℤ
as_flag b = if b then pos 1 else pos 0

abbrev pub message_key : Message → ℤ
message_key m = pos m.number

abbrev pub message_row : Message → Row
message_row m = Int (pos m.number) ∷ Null ∷ Octets m.body ∷ []

abbrev pub record_key : Record → ℤ
record_key r = pos r.number

abbrev pub record_row : Record → Row
record_row r = Int (pos r.number) ∷ Null ∷ Int (pos r.message) ∷ Words r.path ∷ Int (pos r.day) ∷
    Int (as_flag r.destroyed) ∷ []

abbrev pub hold_key : Hold → ℤ
hold_key h = h.id

abbrev pub hold_row : Hold → Row
hold_row h = Int h.id ∷ Words h.name ∷ Int (pos h.number) ∷ []

abbrev pub setting_key : Setting → ℤ
setting_key s = s.id

abbrev pub setting_row : Setting → Row
setting_row s = Int s.id ∷ Words s.key ∷ Words s.value ∷ []

abbrev pub class_key : Class → ℤ
class_key c = c.id

abbrev pub class_row : Class → Row
class_row c = Int c.id ∷ Words c.path ∷ Int (as_flag c.is_open) ∷ or_null Words c.schedule ∷ []

abbrev pub schedule_key : Schedule → ℤ
schedule_key s = s.id

abbrev pub schedule_row : Schedule → Row
schedule_row s = Int s.id ∷ Words s.path ∷ Int (pos s.count) ∷ Int (pos s.unit) ∷ Int (pos s.action) ∷
    Int (pos s.year_end) ∷ []

abbrev pub due_key : Due → ℤ
due_key d = pos d.number

abbrev pub due_row : Due → Row
due_row d = Int (pos d.number) ∷ Null ∷ Int (pos d.day) ∷ []

-- the rows of a database of version 2 are these
pub record Stores (db : Database) (t : Tables) : Type 0 where
  pub schema : IsArchiveSchema db.schema
  pub messages : db.trees schema.common.messages.tree ≡ map message_row t.messages
  pub records : db.trees schema.common.records.tree ≡ map record_row t.records
  pub holds : db.trees schema.common.holds.tree ≡ map hold_row t.holds
  pub settings : db.trees schema.common.settings.tree ≡ map setting_row t.settings
  pub classes : db.trees schema.common.classes.tree ≡ map class_row t.classes
  pub schedules : db.trees schema.schedules.tree ≡ map schedule_row t.schedules
  pub dues : db.trees schema.dues.tree ≡ map due_row t.dues

-- the rows of the five tables that both versions have; nothing is said about other tables
pub record StoresCommon (db : Database) (t : Tables) : Type 0 where
  pub schema : HasCommonTables db.schema
  pub messages : db.trees schema.messages.tree ≡ map message_row t.messages
  pub records : db.trees schema.records.tree ≡ map record_row t.records
  pub holds : db.trees schema.holds.tree ≡ map hold_row t.holds
  pub settings : db.trees schema.settings.tree ≡ map setting_row t.settings
  pub classes : db.trees schema.classes.tree ≡ map class_row t.classes

-- the rows of a database of version 1, with any due days or without the table of them
pub record StoresFirst (db : Database) (t : Tables) : Type 0 where
  pub schema : IsFirstSchema db.schema
  pub messages : db.trees schema.common.messages.tree ≡ map message_row t.messages
  pub records : db.trees schema.common.records.tree ≡ map record_row t.records
  pub holds : db.trees schema.common.holds.tree ≡ map hold_row t.holds
  pub settings : db.trees schema.common.settings.tree ≡ map setting_row t.settings
  pub classes : db.trees schema.common.classes.tree ≡ map class_row t.classes
  pub schedules : t.schedules ≡ []
  pub dues : t.dues ≡ []

-- the rowids ascend, so each appears once
pub record AreKeyed (t : Tables) : Type 0 where
  pub messages : IsKeyedBy message_key t.messages
  pub records : IsKeyedBy record_key t.records
  pub holds : IsKeyedBy hold_key t.holds
  pub settings : IsKeyedBy setting_key t.settings
  pub classes : IsKeyedBy class_key t.classes
  pub schedules : IsKeyedBy schedule_key t.schedules
  pub dues : IsKeyedBy due_key t.dues

abbrev pub StoresKeyed : Database → Tables → Type 0
StoresKeyed db t = Stores db t × AreKeyed t
