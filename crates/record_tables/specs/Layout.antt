-- Which version's tables a schema has, wherever they stand among others.
use Rattle.std.specs.Prelude.{◌≡◌, Option, Some, None, codes}
use Rattle.sqlite.specs.Table.{Table}
use Rattle.sqlite.specs.Schema.{Schema}
use Rattle.record_tables.specs.Tables.{message_table, record_table, hold_table, meta_table, class_table, schedule_table, due_table}
use Rattle.record_tables.specs.Tables.{table_of, Lacks, HasNone}
use Rattle.record_tables.specs.declared.layout.Layout.{Layout}
use Rattle.record_tables.specs.declared.layout.Layout.TheVariants.{Empty, First, FirstWithDues, Second, Other}

-- this table, wherever its rows are kept
abbrev pub IsTable : Table → Table → Type 0
IsTable table t = t ≡ record table { tree = t.tree }

abbrev pub IsTableIfAny : Table → Option Table → Type 0
IsTableIfAny table None = ⊥
IsTableIfAny table (Some t) = IsTable table t

abbrev pub HasTable : Schema → Table → Type 0
HasTable schema table = IsTableIfAny table (table_of schema table.name)

pub record HasCommon (schema : Schema) : Type 0 where
  pub messages : HasTable schema message_table
  pub records : HasTable schema record_table
  pub holds : HasTable schema hold_table
  pub settings : HasTable schema meta_table
  pub classes : HasTable schema class_table

abbrev pub HasFirst : Schema → Type 0
HasFirst schema = HasCommon schema × Lacks schema (codes "schedule") × Lacks schema (codes "due_day")

abbrev pub HasFirstWithDues : Schema → Type 0
HasFirstWithDues schema = HasCommon schema × Lacks schema (codes "schedule") × HasTable schema due_table

abbrev pub HasSecond : Schema → Type 0
HasSecond schema = HasCommon schema × HasTable schema schedule_table × HasTable schema due_table

abbrev pub IsLayout : Schema → Layout → Type 0
IsLayout schema Empty = HasNone schema
IsLayout schema First = HasFirst schema
IsLayout schema FirstWithDues = HasFirstWithDues schema
IsLayout schema Second = HasSecond schema
IsLayout schema Other = ¬ HasNone schema × ¬ HasFirst schema × ¬ HasFirstWithDues schema × ¬ HasSecond schema
