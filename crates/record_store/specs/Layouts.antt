-- Over which tables a store is opened.
use Rattle.std.specs.Prelude.{◌⊎◌}
use Rattle.sqlite.specs.Schema.{Schema}
use Rattle.record_tables.specs.Tables.{HasNone}
use Rattle.record_tables.specs.Layout.{HasFirst, HasFirstWithDues, HasSecond}

-- the tables of version 1, without due days or with them, or of version 2, by their names, columns and keys
abbrev pub HasArchiveTables : Schema → Type 0
HasArchiveTables schema = HasFirst schema ⊎ (HasFirstWithDues schema ⊎ HasSecond schema)

-- an archive's tables, or none that has one of their names
abbrev pub HasArchiveTablesOrNone : Schema → Type 0
HasArchiveTablesOrNone schema = HasArchiveTables schema ⊎ HasNone schema
