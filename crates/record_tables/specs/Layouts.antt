-- What creating the tables makes of a database.
use Rattle.std.specs.Prelude.{◌≡◌, ◌≢◌, ℕ, Bool, true, false, List, [], ◌∷◌, IsTrue, Result, Ok, OnOk, None, codes}
use Rattle.std.specs.List.{AllByRecursion}
use Rattle.sqlite.specs.Table.{Table}
use Rattle.sqlite.specs.Command.TheVariants.{CreateTable, CreateIndex}
use Rattle.sqlite.specs.Compile.{table_defined_by, index_defined_by}
use Rattle.sqlite.specs.Listing.{understood}
use Rattle.sqlite.specs.Schema.{Schema}
use Rattle.sqlite.specs.Effect.{Database, IsDatabase}
use Rattle.sqlite.specs.Store.{Ghosts}
use Rattle.sqlite.specs.State.{State, HasCleanDisk, text_of}
use Rattle.sqlite.specs.Held.{Held, state}
use Rattle.sqlite_catalog.specs.Change.{without_table}
use Rattle.sqlite_rules.specs.Lists.{Has}
use Rattle.sqlite_schema.specs.declared.schema.Index.{Index}
use Rattle.sqlite_resolve.specs.declared.compiled.Compiled.{Compiled}
use Rattle.record_tables.specs.Tables.{archive_schema, due_table, in_tree, Stands, IsApart, IsFree, Lacks}
use Rattle.record_tables.specs.Rows.{Tables, Due, Stores, StoresFirst, StoresKeyed, AreKeyed}
pub use Rattle.record_tables.specs.Changes.{Rests}
use Rattle.record_tables.specs.Changes.{ClassEntry, Rule, RestBeside, with_version, with_plan, without_dues}
use Rattle.record_tables.specs.Steps.{Inside}

-- a transaction that continues
pub record GoesOn (old new : State) : Type 0 where
  pub committed : new.committed ≡ old.committed
  pub mode : new.in_transaction ≡ old.in_transaction
  pub is_open : new.is_open ≡ old.is_open

-- the table stands in the database, and has no row
pub record StandsEmpty (db : Database) (table : Table) : Type 0 where
  pub stands : Stands db.schema table
  pub empty : db.trees stands.tree ≡ []

-- statements that create these tables, empty, beside those that are there, which stay with their rows
pub record Lays (old new : State) (laid : List Table) : Type 0 where
  pub made : AllByRecursion (StandsEmpty new.now) laid
  pub others : (table : Table) (was : Stands old.now.schema table) → Rests old.now new.now table was
  pub apart : IsApart old.now.schema → IsApart new.now.schema
  pub sound : IsDatabase new.now
  pub committed : new.committed ≡ old.committed
  pub mode : new.in_transaction ≡ old.in_transaction
  pub is_open : new.is_open ≡ old.is_open

abbrev pub no_rows : Tables
no_rows = record { messages = []; records = []; holds = []; settings = []; classes = []; schedules = []; dues = [] }

-- the same for a call in a transaction
module _ {S : Type 0} (g : Ghosts S) (old new : Held S) where
  abbrev pub LaysIn : List Table → Type 0
  LaysIn laid = HasCleanDisk (state g new) → IsTrue (state g old).in_transaction → Lays (state g old) (state g new) laid

  abbrev pub GoesOnIn : {T E : Type 0} → Result T E → Type 0
  GoesOnIn result = HasCleanDisk (state g new) → IsTrue (state g old).in_transaction →
      OnOk result (GoesOn (state g old) (state g new))

-- the table of due days stands in the schema, and no table has a foreign key
abbrev pub HasDues : Schema → Type 0
HasDues schema = Stands schema due_table × IsApart schema

-- the table of due days is dropped, and each other stays with its rows
pub record Drops (old new : State) : Type 0 where
  pub gone : (has : HasDues old.now.schema) → new.now.schema ≡ without_table old.now.schema has.0.tree
  pub others : HasDues old.now.schema → (table : Table) → table.name ≢ codes "due_day" →
      (was : Stands old.now.schema table) → Rests old.now new.now table was
  pub apart : HasDues old.now.schema → IsApart new.now.schema
  pub sound : HasDues old.now.schema → IsDatabase new.now
  pub committed : new.committed ≡ old.committed
  pub mode : new.in_transaction ≡ old.in_transaction
  pub is_open : new.is_open ≡ old.is_open

-- the flag says whether there is a table of due days
pub record TellsDues (schema : Schema) (has_dues : Bool) : Type 0 where
  pub without : Lacks schema (codes "due_day") → has_dues ≡ false
  pub with_them : Stands schema due_table → has_dues ≡ true

-- in version 2 without other tables, all due days are removed, and nothing else
pub record Empties (old new : State) : Type 0 where
  pub stored : (t : Tables) → Stores old.now t → AreKeyed t → old.now.schema ≡ archive_schema →
      StoresKeyed new.now (without_dues t)
  pub sound : (t : Tables) → Stores old.now t → AreKeyed t → old.now.schema ≡ archive_schema → IsDatabase new.now
  pub beside : (t : Tables) → Stores old.now t → RestBeside old.now new.now
  pub committed : new.committed ≡ old.committed
  pub mode : new.in_transaction ≡ old.in_transaction
  pub is_open : new.is_open ≡ old.is_open

-- where the flag is true, the schema is that of version 2 without other tables
abbrev pub TellsAlone : Schema → Bool → Type 0
TellsAlone schema is_alone = is_alone ≡ true → schema ≡ archive_schema

-- the tables are created where none had their names, and have this plan and no other row; the database is sound
pub record IsLaid (schedules : List Rule) (classes : List ClassEntry) (old new : Database) : Type 0 where
  pub stored : IsFree old.schema → StoresKeyed new (with_version (with_plan schedules classes [] no_rows))
  pub sound : IsFree old.schema → IsDatabase new

-- the rows of version 1 are in the tables of version 2, which have no schedules and no due days; the database is sound
pub record IsWidened (old new : Database) : Type 0 where
  pub stored : (t : Tables) → StoresFirst old t → Stores new t
  pub sound : (t : Tables) → StoresFirst old t → IsDatabase new

-- the rows of version 1 are now in version 2, where this plan and these due days replace the plan that was there; the
-- database is sound
pub record IsMoved (schedules : List Rule) (classes : List ClassEntry) (dues : List Due) (old new : Database) : Type 0 where
  pub stored : (t : Tables) → StoresFirst old t → AreKeyed t →
      StoresKeyed new (with_version (with_plan schedules classes dues t))
  pub sound : (t : Tables) → StoresFirst old t → AreKeyed t → IsDatabase new

-- the command is one that shows no rows and reads no time, and its text is this text as a whole
pub record IsBare (text : List ℕ) (compiled : Compiled) : Type 0 where
  pub shows : compiled.returning ≡ None
  pub timeless : compiled.formats ≡ []
  pub whole : text_of text compiled ≡ text

-- in each schema in which the text may be run, it creates this table, which has no foreign key
pub record Defines (text : List ℕ) (table : Table) : Type 0 where
  pub creates : (schema : Schema) (compiled : Compiled) → understood schema text ≡ Ok compiled →
      (compiled.command ≡ CreateTable) × IsBare text compiled
  pub defined : table_defined_by text ≡ Ok (in_tree 0 table)
  pub apart : table.references ≡ []

-- the table stands in the schema, and has this index
pub record IsIndexed (schema : Schema) (table : Table) (index : Index) : Type 0 where
  pub stands : Stands schema table
  pub tree : ℕ
  pub listed : Has schema.indexes (record index { tree = tree; table = stands.tree })

-- in each schema that has this table and in which the text may be run, it creates this index of the table
pub record DefinesIndex (text : List ℕ) (table : Table) (index : Index) : Type 0 where
  pub creates : (schema : Schema) (on : Stands schema table) (compiled : Compiled) → understood schema text ≡ Ok compiled →
      (compiled.command ≡ CreateIndex on.place) × IsBare text compiled
  pub defined : (tree : ℕ) → index_defined_by (in_tree tree table) text ≡ Ok (record index { tree = 0; table = tree })

module _ {S : Type 0} (g : Ghosts S) (old new : Held S) where
  -- the table that the text creates is added, empty
  abbrev pub LaysTable : List ℕ → Type 0
  LaysTable text = (table : Table) → Defines text table → LaysIn g old new (table ∷ [])

  -- the index that the text creates is added, and the tables stay
  abbrev pub LaysIndex : List ℕ → Type 0
  LaysIndex text = (table : Table) (index : Index) → DefinesIndex text table index → HasCleanDisk (state g new) →
      IsTrue (state g old).in_transaction → Stands (state g old).now.schema table →
      Lays (state g old) (state g new) [] × IsIndexed (state g new).now.schema table index

  -- in a transaction, the table of due days is dropped
  abbrev pub DropsIn : Type 0
  DropsIn = Inside g old new (Drops (state g old) (state g new))
