-- Rows as a database may have them, whose numbers and flags are any integers.
use Rattle.std.specs.Prelude.{◌≡◌, ℕ, ℤ, pos, List, [], ◌∷◌, Option, map}
use Rattle.sqlite.specs.declared.types.Value.TheVariants.{Null, Int, Text as Words, Blob as Octets}
use Rattle.sqlite.specs.Order.{Row}
use Rattle.sqlite.specs.Effect.{Database}
use Rattle.sqlite_typed.specs.Columns.{or_null}
use Rattle.sqlite_keyed.specs.Keyed.{IsKeyedBy}
use Rattle.record_items.specs.Items.{Message, Record}
use Rattle.record_tables.specs.Tables.{Stands, message_table, record_table, hold_table, class_table, schedule_table}
use Rattle.record_tables.specs.Rows.{Hold, Class, Schedule, as_flag}

pub record RawMessage : Type 0 where
  pub number : ℤ
  pub body : List ℕ

pub record RawRecord : Type 0 where
  pub number : ℤ
  pub message : ℤ
  pub path : List ℕ
  pub day : ℤ
  pub destroyed : ℤ

pub record RawHold : Type 0 where
  pub id : ℤ
  pub name : List ℕ
  pub number : ℤ

pub record RawClass : Type 0 where
  pub id : ℤ
  pub path : List ℕ
  pub is_open : ℤ
  pub schedule : Option (List ℕ)

pub record RawSchedule : Type 0 where
  pub id : ℤ
  pub path : List ℕ
  pub count : ℤ
  pub unit : ℤ
  pub action : ℤ
  pub year_end : ℤ

abbrev pub raw_message : Message → RawMessage
raw_message m = record { number = pos m.number; body = m.body }

abbrev pub raw_record : Record → RawRecord
raw_record r = record { number = pos r.number; message = pos r.message; path = r.path; day = pos r.day; destroyed = as_flag r.destroyed }

abbrev pub raw_hold : Hold → RawHold
raw_hold h = record { id = h.id; name = h.name; number = pos h.number }

abbrev pub raw_class : Class → RawClass
raw_class c = record { id = c.id; path = c.path; is_open = as_flag c.is_open; schedule = c.schedule }

abbrev pub raw_schedule : Schedule → RawSchedule
raw_schedule s = record { id = s.id; path = s.path; count = pos s.count; unit = pos s.unit; action = pos s.action; year_end = pos s.year_end }

abbrev pub raw_message_row : RawMessage → Row
raw_message_row m = Int m.number ∷ Null ∷ Octets m.body ∷ []

abbrev pub raw_record_row : RawRecord → Row
raw_record_row r = Int r.number ∷ Null ∷ Int r.message ∷ Words r.path ∷ Int r.day ∷ Int r.destroyed ∷ []

abbrev pub raw_hold_row : RawHold → Row
raw_hold_row h = Int h.id ∷ Words h.name ∷ Int h.number ∷ []

abbrev pub raw_class_row : RawClass → Row
raw_class_row c = Int c.id ∷ Words c.path ∷ Int c.is_open ∷ or_null Words c.schedule ∷ []

abbrev pub raw_schedule_row : RawSchedule → Row
raw_schedule_row s = Int s.id ∷ Words s.path ∷ Int s.count ∷ Int s.unit ∷ Int s.action ∷ Int s.year_end ∷ []

-- the rows of a tree, whatever integers they have, are typed ones
abbrev pub AreTyped : {X R : Type 0} → (raw : X → R) → (key : R → ℤ) → (row : R → Row) → List Row → Type 0
AreTyped {X} {R} raw key row rows = (rs : List R) → rows ≡ map row rs → IsKeyedBy key rs → (xs : List X) × (rs ≡ map raw xs)

-- those of each table, where it stands in the schema
abbrev pub AreTypedMessages : Database → Type 0
AreTypedMessages db = (is : Stands db.schema message_table) →
    AreTyped raw_message (λ (m : RawMessage). m.number) raw_message_row (db.trees is.tree)

abbrev pub AreTypedRecords : Database → Type 0
AreTypedRecords db = (is : Stands db.schema record_table) →
    AreTyped raw_record (λ (r : RawRecord). r.number) raw_record_row (db.trees is.tree)

abbrev pub AreTypedHolds : Database → Type 0
AreTypedHolds db = (is : Stands db.schema hold_table) →
    AreTyped raw_hold (λ (h : RawHold). h.id) raw_hold_row (db.trees is.tree)

abbrev pub AreTypedClasses : Database → Type 0
AreTypedClasses db = (is : Stands db.schema class_table) →
    AreTyped raw_class (λ (c : RawClass). c.id) raw_class_row (db.trees is.tree)

abbrev pub AreTypedSchedules : Database → Type 0
AreTypedSchedules db = (is : Stands db.schema schedule_table) →
    AreTyped raw_schedule (λ (s : RawSchedule). s.id) raw_schedule_row (db.trees is.tree)
