-- Whether a schema has a table of events, wherever it stands among others.
use Rattle.std.specs.Prelude.{codes}
use Rattle.sqlite.specs.Schema.{Schema}
use Rattle.record_tables.specs.Tables.{Lacks}
use Rattle.record_tables.specs.Layout.{HasTable}
use Rattle.record_tables.specs.Events.{event_table}
use Rattle.record_tables.specs.declared.event_layout.EventLayout.{EventLayout}
use Rattle.record_tables.specs.declared.event_layout.EventLayout.TheVariants.{Absent, Present, Other}

abbrev pub IsEventLayout : Schema → EventLayout → Type 0
IsEventLayout schema Absent = Lacks schema (codes "event")
IsEventLayout schema Present = HasTable schema event_table
IsEventLayout schema Other = ¬ Lacks schema (codes "event") × ¬ HasTable schema event_table
