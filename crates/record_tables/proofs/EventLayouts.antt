-- A schema with a table of events has that table, and one that lacks the name has none.
use Rattle.std.proofs.Common.{◌≡◌, codes, refl, sym, ap, subst, ◌∙◌, option_and_then, slice_get}
use Rattle.sqlite.specs.Schema.{Schema}
use Rattle.record_tables.specs.Tables.{Stands, Lacks}
use Rattle.record_tables.specs.Layout.{HasTable, IsTableIfAny}
use Rattle.record_tables.specs.Events.{event_table}
use Rattle.record_tables.specs.EventLayouts.{IsEventLayout}
use Rattle.record_tables.specs.declared.event_layout.EventLayout.{EventLayout}
use Rattle.record_tables.specs.declared.event_layout.EventLayout.TheVariants.{Absent, Present, Other}

has_events : (schema : Schema) → Stands schema event_table → HasTable schema event_table
has_events schema is = subst (IsTableIfAny event_table) (sym (ap (option_and_then (slice_get schema.tables)) is.named ∙ is.listed)) refl

not_lacking : (schema : Schema) → Stands schema event_table → Lacks schema (codes "event") → ⊥
not_lacking schema is h = let one = sym h ∙ ap (option_and_then (slice_get schema.tables)) is.named ∙ is.listed in absurd cc

pub is_absent : (schema : Schema) (r : EventLayout) → IsEventLayout schema r → Lacks schema (codes "event") → r ≡ Absent
is_absent schema Absent h lacks = refl
is_absent schema Present h lacks = absurd (subst (IsTableIfAny event_table) lacks h)
is_absent schema Other h lacks = absurd (h.0 lacks)

pub is_present : (schema : Schema) (r : EventLayout) → IsEventLayout schema r → Stands schema event_table → r ≡ Present
is_present schema Absent h is = absurd (not_lacking schema is h)
is_present schema Present h is = refl
is_present schema Other h is = absurd (h.1 (has_events schema is))
