-- What statements make of the tables.
use Rattle.std.specs.Prelude.{◌≡◌, ◌≢◌, ◌<◌, ◌++◌, ◌&&◌, ℕ, ℤ, pos, Bool, true, false, List, [], ◌∷◌, Option, codes, ◌+ℤ◌}
use Rattle.std.specs.List.{AllByRecursion}
use Rattle.std.specs.Cmp.Lexicographic.{slice_cmp}
use Rattle.std.specs.Ordering.{nat_cmp, is_eq, int_eq}
use Rattle.sqlite_keyed.specs.Keyed.{next_key, insert_by}
use Rattle.sqlite_keyed.specs.Lists.{delete_where, update_where}
use Rattle.sqlite.specs.State.{State}
use Rattle.sqlite.specs.Effect.{Database, IsDatabase}
use Rattle.sqlite.specs.Table.{Table}
use Rattle.sqlite_trees.specs.Tree.{IsAscending}
use Rattle.record_items.specs.Items.{Message, Record}
use Rattle.record_tables.specs.Tables.{Stands}
use Rattle.record_tables.specs.Rows.{Tables, Hold, Setting, Class, Schedule, Due, Stores, StoresKeyed, AreKeyed, hold_key, setting_key, class_key, schedule_key, due_key}

-- the table that stood in the one database stands in the other, with the same rows
pub record Rests (old new : Database) (table : Table) (was : Stands old.schema table) : Type 0 where
  pub stands : Stands new.schema table
  pub rows : new.trees stands.tree ≡ old.trees was.tree

-- the name is that of none of the archive's tables
pub record IsBeside (name : List ℕ) : Type 0 where
  pub messages : name ≢ codes "message"
  pub records : name ≢ codes "record"
  pub holds : name ≢ codes "hold"
  pub settings : name ≢ codes "meta"
  pub classes : name ≢ codes "class"
  pub schedules : name ≢ codes "schedule"
  pub dues : name ≢ codes "due_day"

-- each table of another name that stood stands, with its rows
abbrev pub RestBeside : (old new : Database) → Type 0
RestBeside old new = (table : Table) → IsBeside table.name → (was : Stands old.schema table) → Rests old new table was

-- a statement in a transaction, which continues; a database that is sound stays so, and tables of other names keep their
-- rows
pub record Puts (old new : State) (Allows : Tables → Type 0) (change : Tables → Tables) : Type 0 where
  pub stored : (t : Tables) → Stores old.now t → AreKeyed t → Allows t → StoresKeyed new.now (change t)
  pub beside : (t : Tables) → Stores old.now t → AreKeyed t → Allows t → RestBeside old.now new.now
  pub sound : IsDatabase old.now → (t : Tables) → Stores old.now t → AreKeyed t → Allows t → IsDatabase new.now
  pub committed : new.committed ≡ old.committed
  pub mode : new.in_transaction ≡ old.in_transaction
  pub is_open : new.is_open ≡ old.is_open

abbrev pub Always : Tables → Type 0
Always t = Unit {0}

abbrev pub IsPastMessages : ℕ → Tables → Type 0
IsPastMessages n t = AllByRecursion (λ (m : Message). m.number < n) t.messages

abbrev pub IsPastRecords : ℕ → Tables → Type 0
IsPastRecords n t = AllByRecursion (λ (r : Record). r.number < n) t.records

abbrev pub IsPastDues : ℕ → Tables → Type 0
IsPastDues n t = AllByRecursion (λ (d : Due). d.number < n) t.dues

abbrev pub new_message : ℕ → List ℕ → Message
new_message number body = record { number = number; body = body }

abbrev pub with_message : Message → Tables → Tables
with_message m t = record t { messages = t.messages ++ m ∷ [] }

-- a record that is not destroyed
abbrev pub new_record : (number message : ℕ) → List ℕ → (day : ℕ) → Record
new_record number message path day = record { number = number; message = message; path = path; day = day; destroyed = false }

abbrev pub with_record : Record → Tables → Tables
with_record r t = record t { records = t.records ++ r ∷ [] }

abbrev pub with_due : Due → Tables → Tables
with_due d t = record t { dues = t.dues ++ d ∷ [] }

-- the due day at its place, in the order of the records' numbers
abbrev pub with_due_placed : Due → Tables → Tables
with_due_placed d t = record t { dues = insert_by due_key t.dues d }

abbrev pub without_dues : Tables → Tables
without_dues t = record t { dues = [] }

abbrev pub without_classes : Tables → Tables
without_classes t = record t { classes = [] }

abbrev pub without_settings : Tables → Tables
without_settings t = record t { settings = [] }

abbrev pub without_schedules : Tables → Tables
without_schedules t = record t { schedules = [] }

abbrev pub destruction_of : Record → Record
destruction_of r = record r { destroyed = true }

abbrev pub with_destruction : ℕ → Tables → Tables
with_destruction n t = record t { records = update_where (λ (r : Record). int_eq (pos r.number) (pos n)) destruction_of t.records }

-- the record in another class
abbrev pub in_class : List ℕ → Record → Record
in_class path r = record r { path = path }

abbrev pub with_path : ℕ → List ℕ → Tables → Tables
with_path n path t = record t { records = update_where (λ (r : Record). int_eq (pos r.number) (pos n)) (in_class path) t.records }

abbrev pub with_class : List ℕ → Bool → Option (List ℕ) → Tables → Tables
with_class path is_open schedule t = record t { classes = t.classes ++ record { id = next_key class_key t.classes; path = path; is_open = is_open; schedule = schedule } ∷ [] }

-- a schedule of a class or of the whole plan, without its rowid
pub record Rule : Type 0 where
  pub path : List ℕ
  pub count : ℕ
  pub unit : ℕ
  pub action : ℕ
  pub year_end : ℕ

abbrev pub schedule_at : ℤ → Rule → Schedule
schedule_at id r = record { id = id; path = r.path; count = r.count; unit = r.unit; action = r.action; year_end = r.year_end }

abbrev pub with_schedule : Rule → Tables → Tables
with_schedule r t = record t { schedules = t.schedules ++ schedule_at (next_key schedule_key t.schedules) r ∷ [] }

abbrev pub with_setting : List ℕ → List ℕ → Tables → Tables
with_setting key value t = record t { settings = t.settings ++ record { id = next_key setting_key t.settings; key = key; value = value } ∷ [] }

abbrev pub with_hold : List ℕ → ℕ → Tables → Tables
with_hold name n t = record t { holds = t.holds ++ record { id = next_key hold_key t.holds; name = name; number = n } ∷ [] }

abbrev pub is_hold : List ℕ → ℕ → Hold → Bool
is_hold name n h = is_eq (slice_cmp nat_cmp h.name name) && int_eq (pos h.number) (pos n)

abbrev pub without_hold : List ℕ → ℕ → Tables → Tables
without_hold name n t = record t { holds = delete_where (is_hold name n) t.holds }

abbrev pub without_message : ℕ → Tables → Tables
without_message n t = record t { messages = delete_where (λ (m : Message). int_eq (pos m.number) (pos n)) t.messages }

abbrev pub without_due : ℕ → Tables → Tables
without_due n t = record t { dues = delete_where (λ (d : Due). int_eq (pos d.number) (pos n)) t.dues }

-- ---- whole transactions

-- what a whole transaction makes of the database, which stays sound
pub record Turns (old new : Database) (Allows : Tables → Type 0) (change : Tables → Tables) : Type 0 where
  pub stored : (t : Tables) → Stores old t → AreKeyed t → Allows t → StoresKeyed new (change t)
  pub sound : IsDatabase old → (t : Tables) → Stores old t → AreKeyed t → Allows t → IsDatabase new

-- the same, and tables of other names keep their rows
pub record TurnsAlone (old new : Database) (Allows : Tables → Type 0) (change : Tables → Tables) : Type 0 where
  pub turns : Turns old new Allows change
  pub beside : (t : Tables) → Stores old t → AreKeyed t → Allows t → RestBeside old new

-- a class as it is listed, without its rowid
pub record ClassEntry : Type 0 where
  pub path : List ℕ
  pub is_open : Bool
  pub schedule : Option (List ℕ)

-- the classes in this order, with rowids from this one on
abbrev pub classes_from : ℤ → List ClassEntry → List Class
classes_from id [] = []
classes_from id (c ∷ cs) = record { id = id; path = c.path; is_open = c.is_open; schedule = c.schedule } ∷ classes_from (id +ℤ pos 1) cs

abbrev pub with_class_entry : ClassEntry → Tables → Tables
with_class_entry c = with_class c.path c.is_open c.schedule

abbrev pub with_dues : List Due → Tables → Tables
with_dues ds t = record t { dues = ds }

abbrev pub with_classes : List ClassEntry → Tables → Tables
with_classes cs t = record t { classes = classes_from (pos 1) cs }

-- the schedules in this order, with rowids from this one on
abbrev pub schedules_from : ℤ → List Rule → List Schedule
schedules_from id [] = []
schedules_from id (r ∷ rs) = schedule_at id r ∷ schedules_from (id +ℤ pos 1) rs

abbrev pub with_schedules : List Rule → Tables → Tables
with_schedules rs t = record t { schedules = schedules_from (pos 1) rs }

-- the one row of `meta` in version 2
abbrev pub version_2 : List Setting
version_2 = record { id = pos 1; key = codes "version"; value = codes "2" } ∷ []

abbrev pub with_version : Tables → Tables
with_version t = record t { settings = version_2 }

-- the rows of a plan and the due days by it, in place of those that were there
abbrev pub with_plan : List Rule → List ClassEntry → List Due → Tables → Tables
with_plan rs cs ds t = record t { classes = classes_from (pos 1) cs; schedules = schedules_from (pos 1) rs; dues = ds }

-- what replacing a plan makes of a database
abbrev pub IsRevised : List Rule → List ClassEntry → List Due → Database → Database → Type 0
IsRevised rs cs ds old new = Turns old new Always (with_plan rs cs ds)

-- the same, and tables of other names keep their rows
abbrev pub IsRevisedAlone : List Rule → List ClassEntry → List Due → Database → Database → Type 0
IsRevisedAlone rs cs ds old new = TurnsAlone old new Always (with_plan rs cs ds)

abbrev pub HasNoClasses : Tables → Type 0
HasNoClasses t = t.classes ≡ []

abbrev pub HasNoSchedules : Tables → Type 0
HasNoSchedules t = t.schedules ≡ []

abbrev pub HasNoDues : Tables → Type 0
HasNoDues t = t.dues ≡ []

-- the record numbers ascend
abbrev pub AreAscending : List Due → Type 0
AreAscending = IsAscending (λ (a b : Due). a.number < b.number)
