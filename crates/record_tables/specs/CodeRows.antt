-- The rows of the code as plain rows.
use Rattle.std.specs.Prelude.{List, map, option_map}
use Rattle.record_tables.specs.declared.rows.RecordRow.{RecordRow}
use Rattle.record_tables.specs.declared.rows.HoldRow.{HoldRow}
use Rattle.record_tables.specs.declared.rows.SettingRow.{SettingRow}
use Rattle.record_tables.specs.declared.rows.ClassRow.{ClassRow}
use Rattle.record_tables.specs.declared.rows.ScheduleRow.{ScheduleRow}
use Rattle.record_tables.specs.declared.rows.DueRow.{DueRow}
use Rattle.sqlite.specs.Effect.{Database}
use Rattle.record_items.specs.Items.{Record}
use Rattle.record_tables.specs.Rows.{Tables, Due}
use Rattle.record_tables.specs.Changes.{ClassEntry, Rule, with_plan}
use Rattle.record_tables.specs.Layouts.{IsMoved}
use Rattle.record_tables.specs.Reads.{HoldEntry, Pair}

abbrev pub record_of : RecordRow → Record
record_of r = record { number = r.number; message = r.message; path = r.path.items; day = r.day; destroyed = r.destroyed }

abbrev pub hold_entry_of : HoldRow → HoldEntry
hold_entry_of h = record { name = h.name.items; number = h.record }

abbrev pub pair_of : SettingRow → Pair
pair_of s = record { key = s.key.items; value = s.value.items }

abbrev pub class_entry_of : ClassRow → ClassEntry
class_entry_of c = record { path = c.path.items; is_open = c.is_open; schedule = option_map (λ t. t.items) c.schedule }

abbrev pub rule_of : ScheduleRow → Rule
rule_of s = record { path = s.path.items; count = s.count; unit = s.unit; action = s.action; year_end = s.year_end }

abbrev pub due_of : DueRow → Due
due_of d = record { number = d.record; day = d.day }

-- these rows of a plan and these due days by it are in place of those that were there
abbrev pub with_plan_rows : List ScheduleRow → List ClassRow → List DueRow → Tables → Tables
with_plan_rows schedules classes dues = with_plan (map rule_of schedules) (map class_entry_of classes) (map due_of dues)

-- the rows of version 1 are now in version 2, with these rows of a plan and these due days
abbrev pub IsMovedTo : List ScheduleRow → List ClassRow → List DueRow → Database → Database → Type 0
IsMovedTo schedules classes dues = IsMoved (map rule_of schedules) (map class_entry_of classes) (map due_of dues)
