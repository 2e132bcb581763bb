-- The history of an archive as it is stored: a table of events beside the archive's own.
use Rattle.std.specs.Prelude.{◌≡◌, ◌≢◌, ◌<◌, ◌++◌, map, ℕ, ℤ, pos, List, [], ◌∷◌, codes}
use Rattle.std.specs.List.{AllByRecursion}
use Rattle.sqlite.specs.declared.types.Value.TheVariants.{Null, Int, Text as Words}
use Rattle.sqlite.specs.Order.{Row}
use Rattle.sqlite.specs.Table.{Table}
use Rattle.sqlite.specs.Schema.{Schema}
use Rattle.sqlite.specs.Kind.TheVariants.{Integer, Text}
use Rattle.sqlite.specs.Effect.{Database, IsDatabase}
use Rattle.sqlite_keyed.specs.Keyed.{IsKeyedBy}
use Rattle.record_tables.specs.Tables.{keyed_table, optional, not_null_column, Stands, IsApart}
use Rattle.record_tables.specs.Changes.{Rests}

-- a row of `event`: its number, its line of text, and the mark of the chain up to it
pub record Event : Type 0 where
  pub number : ℕ
  pub line : List ℕ
  pub mark : List ℕ

abbrev pub new_event : ℕ → (line mark : List ℕ) → Event
new_event number line mark = record { number = number; line = line; mark = mark }

abbrev pub event_table : Table
event_table = keyed_table (codes "event") 0
    (optional (codes "number") Integer ∷ not_null_column (codes "line") Text ∷ not_null_column (codes "mark") Text ∷ [])

abbrev pub event_key : Event → ℤ
event_key e = pos e.number

abbrev pub event_row : Event → Row
event_row e = Int (pos e.number) ∷ Null ∷ Words e.line ∷ Words e.mark ∷ []

-- the table of events stands in the schema, and no table has a foreign key
pub record HasEvents (schema : Schema) : Type 0 where
  pub stands : Stands schema event_table
  pub apart : IsApart schema

-- the table of events has these rows
pub record StoresEvents (db : Database) (es : List Event) : Type 0 where
  pub stands : Stands db.schema event_table
  pub rows : db.trees stands.tree ≡ map event_row es
  pub keyed : IsKeyedBy event_key es

abbrev pub IsPastEvents : ℕ → List Event → Type 0
IsPastEvents n es = AllByRecursion (λ (e : Event). e.number < n) es

-- the event comes after the others, and each other table rests
pub record Notes (old new : Database) (e : Event) : Type 0 where
  pub noted : IsApart old.schema → (es : List Event) → StoresEvents old es → IsPastEvents e.number es → StoresEvents new (es ++ e ∷ [])
  pub others : HasEvents old.schema → (table : Table) → table.name ≢ codes "event" → (was : Stands old.schema table) →
      Rests old new table was
  pub apart : HasEvents old.schema → IsApart new.schema
  pub sound : HasEvents old.schema → IsDatabase new

-- there is a table of events
abbrev pub KeepsEvents : Database → Type 0
KeepsEvents db = Stands db.schema event_table

-- the event comes after those that were there
abbrev pub NotesEvent : Event → (old new : Database) → Type 0
NotesEvent e old new = (es : List Event) → StoresEvents old es → IsPastEvents e.number es → StoresEvents new (es ++ e ∷ [])
