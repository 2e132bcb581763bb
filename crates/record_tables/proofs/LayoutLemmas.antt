-- A schema of a version has the tables of that version alone.
use Rattle.std.proofs.Common.{◌≡◌, ◌↔◌, Bool, true, false, not, IsTrue, codes, refl, ap, subst, sym, ◌∙◌, option_and_then, slice_get}
use Rattle.sqlite.specs.Schema.{Schema}
use Rattle.sqlite.specs.Table.{Table}
use Rattle.record_tables.specs.Tables.{Stands, Lacks, HasNone, HasCommonTables, IsFirstSchema, IsArchiveSchema, message_table}
use Rattle.record_tables.specs.Tables.{record_table, hold_table, meta_table, class_table, schedule_table, due_table}
use Rattle.record_tables.specs.Layouts.{TellsDues}
use Rattle.record_tables.specs.Layout.{HasCommon, HasTable, IsTableIfAny, IsLayout}
use Rattle.record_tables.specs.declared.layout.Layout.{Layout}
use Rattle.record_tables.specs.declared.layout.Layout.TheVariants.{Empty, First, FirstWithDues, Second, Other}

has_table : (schema : Schema) (t : Table) → Stands schema t → HasTable schema t
has_table schema t is = subst (IsTableIfAny t) (sym (ap (option_and_then (slice_get schema.tables)) is.named ∙ is.listed)) refl

not_lacking : (schema : Schema) (t : Table) → Stands schema t → Lacks schema t.name → ⊥
not_lacking schema t is h = let one = sym h ∙ ap (option_and_then (slice_get schema.tables)) is.named ∙ is.listed in absurd cc

all_common : (schema : Schema) → HasCommonTables schema → HasCommon schema
all_common schema has = record {
  messages = has_table schema message_table has.messages;
  records = has_table schema record_table has.records;
  holds = has_table schema hold_table has.holds;
  settings = has_table schema meta_table has.settings;
  classes = has_table schema class_table has.classes;
}

lacks_table : (schema : Schema) (t : Table) → Lacks schema t.name → HasTable schema t → ⊥
lacks_table schema t lacks has = subst (IsTableIfAny t) lacks has

pub is_empty : (schema : Schema) (r : Layout) → IsLayout schema r → HasNone schema → r ≡ Empty
is_empty schema Empty h none = refl
is_empty schema First h none = absurd (lacks_table schema message_table none.messages h.0.messages)
is_empty schema FirstWithDues h none = absurd (lacks_table schema message_table none.messages h.0.messages)
is_empty schema Second h none = absurd (lacks_table schema message_table none.messages h.0.messages)
is_empty schema Other h none = absurd (h.0 none)

pub is_first : (schema : Schema) (r : Layout) → IsLayout schema r → IsFirstSchema schema → Lacks schema (codes "due_day") → r ≡ First
is_first schema Empty h is lacks = absurd (not_lacking schema message_table is.common.messages h.messages)
is_first schema First h is lacks = refl
is_first schema FirstWithDues h is lacks = absurd (lacks_table schema due_table lacks h.2)
is_first schema Second h is lacks = absurd (lacks_table schema due_table lacks h.2)
is_first schema Other h is lacks = absurd (h.1 (all_common schema is.common, is.unscheduled, lacks))

pub is_dated : (schema : Schema) (r : Layout) → IsLayout schema r → IsFirstSchema schema → Stands schema due_table → r ≡ FirstWithDues
is_dated schema Empty h is on = absurd (not_lacking schema message_table is.common.messages h.messages)
is_dated schema First h is on = absurd (not_lacking schema due_table on h.2)
is_dated schema FirstWithDues h is on = refl
is_dated schema Second h is on = absurd (lacks_table schema schedule_table is.unscheduled h.1)
is_dated schema Other h is on = absurd (h.2 (all_common schema is.common, is.unscheduled, has_table schema due_table on))

pub is_second : (schema : Schema) (r : Layout) → IsLayout schema r → IsArchiveSchema schema → r ≡ Second
is_second schema Empty h has = absurd (not_lacking schema schedule_table has.schedules h.schedules)
is_second schema First h has = absurd (not_lacking schema schedule_table has.schedules h.1)
is_second schema FirstWithDues h has = absurd (not_lacking schema schedule_table has.schedules h.1)
is_second schema Second h has = refl
is_second schema Other h has = absurd (h.3 (
  all_common schema has.common,
  has_table schema schedule_table has.schedules,
  has_table schema due_table has.dues,
))

-- the table of due days is there exactly where `due_day` is not lacking
pub tells : (schema : Schema) (b : Bool) → (IsTrue b ↔ Lacks schema (codes "due_day")) → TellsDues schema (not b)
tells schema true h = record { without = λ lacks. refl; with_them = λ on. absurd (not_lacking schema due_table on (h.0 refl)) }
tells schema false h = record { without = λ lacks. absurd (let e = h.1 lacks in cc); with_them = λ on. refl }
