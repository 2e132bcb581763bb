-- The tables of a store, and the schemas that have them.
use Rattle.sqlite.specs.Collation.TheVariants.{Binary}
use Rattle.std.specs.Prelude.{◌≡◌, ◌⊎◌, ◌<◌, ◌^◌, ◌==◌, ℕ, Bool, true, false, List, [], ◌∷◌, Option, Some, None, option_and_then, slice_get, find, codes}
use Rattle.std.specs.List.{AllByRecursion}
use Rattle.sqlite.specs.declared.types.Value.TheVariants.{Null}
use Rattle.sqlite.specs.Table.{Table}
use Rattle.sqlite.specs.Schema.{Schema}
use Rattle.sqlite.specs.Kind.{Kind}
use Rattle.sqlite.specs.Kind.TheVariants.{Integer, Text, Blob}
use Rattle.sqlite_schema.specs.Names.{table_named}
use Rattle.sqlite_schema.specs.declared.schema.Column.{Column}
use Rattle.sqlite_schema.specs.declared.schema.Index.{Index}
use Rattle.sqlite_schema.specs.declared.schema.View.{View}
use Rattle.sqlite_value.specs.Keys.{plain}

abbrev pub strict_column : List ℕ → Kind → Bool → Column
strict_column name kind not_null = record { name = name; kind = kind; is_strict = true; not_null = not_null; default = Null; collation = Binary }

abbrev pub not_null_column : List ℕ → Kind → Column
not_null_column name kind = strict_column name kind true

abbrev pub optional : List ℕ → Kind → Column
optional name kind = strict_column name kind false

-- a table whose first column is its rowid
abbrev pub keyed_table : List ℕ → ℕ → List Column → Table
keyed_table name tree columns = record {
  name = name;
  tree = tree;
  columns = columns;
  key = Some 0;
  primary = 0 ∷ [];
  uniques = [];
  orders = [];
  checks = [];
  references = [];
  computed = [];
  stamps = record { places = []; terms = []; formats = [] };
  is_counted = false;
}

-- a table with another key, and a rowid that no column shows
abbrev pub uniquely_keyed_table : List ℕ → ℕ → List ℕ → List Column → Table
uniquely_keyed_table name tree key columns = record {
  name = name;
  tree = tree;
  columns = columns;
  key = None;
  primary = key;
  uniques = key ∷ [];
  orders = plain ∷ [];
  checks = [];
  references = [];
  computed = [];
  stamps = record { places = []; terms = []; formats = [] };
  is_counted = false;
}

abbrev pub message_table : Table
message_table = keyed_table (codes "message") 0 (optional (codes "number") Integer ∷ not_null_column (codes "body") Blob ∷ [])

abbrev pub record_table : Table
record_table = keyed_table (codes "record") 1
    (optional (codes "number") Integer ∷ not_null_column (codes "message") Integer ∷ not_null_column (codes "path") Text ∷
    not_null_column (codes "day") Integer ∷ not_null_column (codes "destroyed") Integer ∷ [])

abbrev pub hold_table : Table
hold_table = uniquely_keyed_table (codes "hold") 2 (1 ∷ 2 ∷ []) (not_null_column (codes "name") Text ∷
    not_null_column (codes "record") Integer ∷ [])

abbrev pub meta_table : Table
meta_table = uniquely_keyed_table (codes "meta") 4 (1 ∷ []) (not_null_column (codes "key") Text ∷ not_null_column (codes "value") Text ∷
    [])

abbrev pub class_table : Table
class_table = uniquely_keyed_table (codes "class") 6 (1 ∷ []) (not_null_column (codes "path") Text ∷
    not_null_column (codes "is_open") Integer ∷ optional (codes "schedule") Text ∷ [])

abbrev pub schedule_table : Table
schedule_table = uniquely_keyed_table (codes "schedule") 8 (1 ∷ [])
    (not_null_column (codes "path") Text ∷ not_null_column (codes "count") Integer ∷ not_null_column (codes "unit") Integer ∷
    not_null_column (codes "action") Integer ∷ not_null_column (codes "year_end") Integer ∷ [])

-- its tree is 10 in version 2, and 8 in version 1
abbrev pub due_table_at : ℕ → Table
due_table_at tree = keyed_table (codes "due_day") tree (optional (codes "record") Integer ∷
    not_null_column (codes "day") Integer ∷ [])

abbrev pub due_table : Table
due_table = due_table_at 10

-- the tables of version 2, in the order in which they are created
abbrev pub archive_tables : List Table
archive_tables = message_table ∷ record_table ∷ hold_table ∷ meta_table ∷ class_table ∷ schedule_table ∷ due_table ∷ []

-- the index of a key
abbrev pub key_index : List ℕ → ℕ → ℕ → List ℕ → Index
key_index name tree table columns = record { name = name; tree = tree; table = table; columns = columns; order = plain; is_unique = true }

abbrev pub due_index_at : ℕ → ℕ → Index
due_index_at tree table = record { name = codes "due_by_day"; tree = tree; table = table; columns = 2 ∷ 0 ∷ []; order = plain; is_unique = false }

abbrev pub due_index : Index
due_index = due_index_at 11 10

-- ---- a schema that has the tables, wherever they stand among others

-- the table with its rows in this tree
abbrev pub in_tree : ℕ → Table → Table
in_tree tree table = record table { tree = tree }

-- the table stands at this place of the schema and has its rows in this tree, and no earlier table has its name or its tree
pub record Stands (schema : Schema) (table : Table) : Type 0 where
  pub place : ℕ
  pub tree : ℕ
  pub named : table_named schema table.name ≡ Some place
  pub listed : slice_get schema.tables place ≡ Some (in_tree tree table)
  pub own : find (λ t. t.tree == tree) schema.tables ≡ Some (in_tree tree table)
  pub small : tree < 2 ^ 31

-- the five tables of both versions
pub record HasCommonTables (schema : Schema) : Type 0 where
  pub messages : Stands schema message_table
  pub records : Stands schema record_table
  pub holds : Stands schema hold_table
  pub settings : Stands schema meta_table
  pub classes : Stands schema class_table

-- no table has a foreign key
abbrev pub IsApart : Schema → Type 0
IsApart schema = AllByRecursion (λ (t : Table). t.references ≡ []) schema.tables

-- the tables of version 2, and no table with a foreign key
pub record IsArchiveSchema (schema : Schema) : Type 0 where
  pub common : HasCommonTables schema
  pub schedules : Stands schema schedule_table
  pub dues : Stands schema due_table
  pub apart : IsApart schema

-- the table of a name, in any case of ASCII letters
abbrev pub table_of : Schema → List ℕ → Option Table
table_of schema name = option_and_then (slice_get schema.tables) (table_named schema name)

abbrev pub Lacks : Schema → List ℕ → Type 0
Lacks schema name = table_of schema name ≡ None

-- the tables of version 1, with that of due days or without it, and no table with a foreign key
pub record IsFirstSchema (schema : Schema) : Type 0 where
  pub common : HasCommonTables schema
  pub unscheduled : Lacks schema (codes "schedule")
  pub dues : Lacks schema (codes "due_day") ⊎ Stands schema due_table
  pub apart : IsApart schema

-- no table has one of the archive's names
pub record HasNone (schema : Schema) : Type 0 where
  pub messages : Lacks schema (codes "message")
  pub records : Lacks schema (codes "record")
  pub holds : Lacks schema (codes "hold")
  pub settings : Lacks schema (codes "meta")
  pub classes : Lacks schema (codes "class")
  pub schedules : Lacks schema (codes "schedule")
  pub dues : Lacks schema (codes "due_day")

-- no table has one of the archive's names, and none has a foreign key
pub record IsFree (schema : Schema) : Type 0 where
  pub none : HasNone schema
  pub apart : IsApart schema

-- ---- the schemas that this crate creates

-- what a schema has after the tables in question
pub record Foreign : Type 0 where
  pub tables : List Table
  pub indexes : List Index
  pub views : List View

abbrev pub none : Foreign
none = record { tables = []; indexes = []; views = [] }

-- the five tables that versions 1 and 2 share, before others
abbrev pub common_beside : Foreign → Schema
common_beside f = record {
  tables = message_table ∷ record_table ∷ hold_table ∷ meta_table ∷ class_table ∷ f.tables;
  indexes = key_index (codes "sqlite_autoindex_hold_1") 3 2 (1 ∷ 2 ∷ []) ∷
      key_index (codes "sqlite_autoindex_meta_1") 5 4 (1 ∷ []) ∷
      key_index (codes "sqlite_autoindex_class_1") 7 6 (1 ∷ []) ∷ f.indexes;
  views = f.views;
}

-- the schedules and the due days of version 2, before others
abbrev pub schedules_and_dues_beside : Foreign → Foreign
schedules_and_dues_beside f = record {
  tables = schedule_table ∷ due_table ∷ f.tables;
  indexes = key_index (codes "sqlite_autoindex_schedule_1") 9 8 (1 ∷ []) ∷ due_index ∷ f.indexes;
  views = f.views;
}

-- the due days of version 1
abbrev pub first_dues : Foreign
first_dues = record { tables = due_table_at 8 ∷ []; indexes = due_index_at 9 8 ∷ []; views = [] }

-- the tables of version 2, before others
abbrev pub archive_beside : Foreign → Schema
archive_beside f = common_beside (schedules_and_dues_beside f)

abbrev pub no_schema : Schema
no_schema = record { tables = []; indexes = []; views = [] }

abbrev pub archive_schema : Schema
archive_schema = archive_beside none

-- version 1, without due days and with them
abbrev pub first_schema : Schema
first_schema = common_beside none

abbrev pub first_schema_with_dues : Schema
first_schema_with_dues = common_beside first_dues

-- none of these tables has a foreign key
abbrev pub HasNoReferences : Foreign → Type 0
HasNoReferences f = AllByRecursion (λ (t : Table). t.references ≡ []) f.tables
