-- What is stored of an event, and what stays.
use Rattle.std.proofs.Common.{◌≡◌, ◌≢◌, ◌/◌, ℕ, pos, List, [], ◌∷◌, ◌++◌, map, length, codes, Ok, refl, sym, ap, subst, ◌∙◌}
use Rattle.sqlite.specs.declared.types.Value.TheVariants.{Null, Int, Text}
use Rattle.sqlite.specs.Order.{Row}
use Rattle.sqlite.specs.Term.{Term, lit, col}
use Rattle.sqlite.specs.Table.{Table}
use Rattle.sqlite.specs.Schema.{Schema}
use Rattle.sqlite.specs.Tree.{put_row}
use Rattle.sqlite.specs.Edit.{edit_of, edited}
use Rattle.sqlite.specs.Rowids.TheVariants.{Chosen}
use Rattle.sqlite.specs.Source.TheVariants.{Values}
use Rattle.sqlite.specs.Command.TheVariants.{Insert}
use Rattle.sqlite.specs.Effect.{Database, IsDatabase, value_rows}
use Rattle.sqlite.specs.State.{State, ExecutesInside}
use Rattle.sqlite.specs.Listing.{understood}
use Rattle.sqlite.proofs.Callers.{runs_as}
use Rattle.sqlite_keyed.specs.Keyed.{IsKeyedBy, insert_by}
use Rattle.sqlite_keyed.proofs.KeyedLemmas.{IsKeyedBy-insert_by}
use Rattle.sqlite_typed.proofs.RowLemmas.{puts-map}
use Rattle.sqlite_tied.specs.Compute.{everything}
use Rattle.record_tables.specs.Tables.{in_tree, Stands, IsApart}
use Rattle.record_tables.specs.Rows.{Tables, Stores}
use Rattle.record_tables.specs.Changes.{IsBeside}
use Rattle.record_tables.specs.Events.{Event, event_table, event_key, event_row, HasEvents, StoresEvents, Notes}
use Rattle.record_tables.specs.Events.{KeepsEvents, NotesEvent}
use Rattle.record_tables.specs.Companions.{Accompanies}
use Rattle.record_tables.specs.Layouts.{Lays}
use Rattle.record_tables.proofs.Compiling.{Means, means_insert}
use Rattle.record_tables.proofs.WriteLemmas.{IsQuiet, inserts, cast_int, cast_null}
use Rattle.record_tables.proofs.Described.{Others, no_works, trees_differ, at_place, rest_in}
use Rattle.record_tables.proofs.Statements.{above_last}
use Rattle.record_tables.proofs.DropLemmas.{names_differ}

abbrev pub insert_event : List ℕ
insert_event = codes "INSERT INTO event (number, line, mark) VALUES (?1, ?2, ?3)"

abbrev event_terms : List Term
event_terms = col 0 0 ∷ lit Null ∷ col 0 1 ∷ col 0 2 ∷ []

abbrev pub event_params : Event → Row
event_params e = Int (pos e.number) ∷ Text e.line ∷ Text e.mark ∷ []

pub insert_event_is : (schema : Schema) (is : Stands schema event_table) → Means schema insert_event (Insert is.place (Values event_terms 4))
unfolding understood everything
insert_event_is schema is =
    means_insert schema event_table is insert_event (Values event_terms 4) (refl, refl) refl (refl, refl, refl, refl, refl)

-- the name is none of the archive's, and none of these is the name
apart_messages : (codes "event" ≡ codes "message" → ⊥) × (codes "message" ≡ codes "event" → ⊥)
unfolding everything
apart_messages = (names_differ (codes "event") (codes "message") refl, names_differ (codes "message") (codes "event") refl)

apart_records : (codes "event" ≡ codes "record" → ⊥) × (codes "record" ≡ codes "event" → ⊥)
unfolding everything
apart_records = (names_differ (codes "event") (codes "record") refl, names_differ (codes "record") (codes "event") refl)

apart_holds : (codes "event" ≡ codes "hold" → ⊥) × (codes "hold" ≡ codes "event" → ⊥)
unfolding everything
apart_holds = (names_differ (codes "event") (codes "hold") refl, names_differ (codes "hold") (codes "event") refl)

apart_settings : (codes "event" ≡ codes "meta" → ⊥) × (codes "meta" ≡ codes "event" → ⊥)
unfolding everything
apart_settings = (names_differ (codes "event") (codes "meta") refl, names_differ (codes "meta") (codes "event") refl)

apart_classes : (codes "event" ≡ codes "class" → ⊥) × (codes "class" ≡ codes "event" → ⊥)
unfolding everything
apart_classes = (names_differ (codes "event") (codes "class") refl, names_differ (codes "class") (codes "event") refl)

apart_schedules : (codes "event" ≡ codes "schedule" → ⊥) × (codes "schedule" ≡ codes "event" → ⊥)
unfolding everything
apart_schedules = (names_differ (codes "event") (codes "schedule") refl, names_differ (codes "schedule") (codes "event") refl)

apart_dues : (codes "event" ≡ codes "due_day" → ⊥) × (codes "due_day" ≡ codes "event" → ⊥)
unfolding everything
apart_dues = (names_differ (codes "event") (codes "due_day") refl, names_differ (codes "due_day") (codes "event") refl)

pub event_is_beside : IsBeside (codes "event")
event_is_beside = record {
  messages = apart_messages.0;
  records = apart_records.0;
  holds = apart_holds.0;
  settings = apart_settings.0;
  classes = apart_classes.0;
  schedules = apart_schedules.0;
  dues = apart_dues.0;
}

quiet_events : (schema : Schema) (is : Stands schema event_table) → IsApart schema → IsQuiet schema is.place (in_tree is.tree event_table)
quiet_events schema is apart = record {
  listed = is.listed;
  uncounted = refl;
  unstamped = refl;
  quiet = λ keys olds news. no_works schema keys is.tree olds news schema.tables apart;
}

-- the same table in a database with an equal schema
moved : (old new : Database) (es : List Event) (is : Stands old.schema event_table) → new.schema ≡ old.schema
    → new.trees is.tree ≡ map event_row es → IsKeyedBy event_key es → StoresEvents new es
moved old new es is same rows keyed =
    let rest : (s : Stands new.schema event_table) × (s.tree ≡ is.tree) =
    subst (λ schema. (s : Stands schema event_table) × (s.tree ≡ is.tree)) (sym same) (is, refl) in
    record { stands = rest.0; rows = ap new.trees rest.1 ∙ rows; keyed = keyed }

-- what the INSERT makes of the trees
record Inserted (old new : State) (e : Event) (is : Stands old.now.schema event_table) : Type 0 where
  schema : new.now.schema ≡ old.now.schema
  others : Others old.now.schema is.tree old.now.trees new.now.trees
  row : new.now.trees is.tree ≡ put_row (event_row e) (old.now.trees is.tree)
  sound : IsDatabase new.now

inserted : (old new : State) (e : Event) (count : ℕ) → ExecutesInside 0 insert_event (event_params e) old new (Ok count)
    → (has : HasEvents old.now.schema) → Inserted old new e has.stands
inserted old new e count h has =
    let schema = old.now.schema in
    let at = has.stands in
    let is = insert_event_is schema at in
    let w = runs_as insert_event (event_params e) old new schema refl _ is.is is.plain count h.0 in
    let ins = inserts schema at.place (in_tree at.tree event_table) (quiet_events schema at has.apart) old new _ event_terms 4
    (event_params e) count refl w in
    let edit : edited old.now.trees (edit_of old.now.trees (in_tree at.tree event_table) [] Chosen 0
    (value_rows (event_params e) 4 (length event_terms / 4) event_terms)) ≡ put_row (event_row e) (old.now.trees at.tree) =
    rw (cast_null, cast_int (pos e.number)) in
    record { schema = ins.0; others = ins.1.tables; row = ins.1.rows ∙ edit; sound = w.sound }

pub notes_event : (old new : State) (e : Event) (count : ℕ) → ExecutesInside 0 insert_event (event_params e) old new (Ok count)
    → Notes old.now new.now e
notes_event old new e count h = record {
  noted = λ apart es s past.
      let made = inserted old new e count h (record { stands = s.stands; apart = apart }) in
      let at_end : insert_by event_key es e ≡ es ++ e ∷ [] = above_last (λ (x : Event). x.number) es e past in
      let rows = made.row ∙ ap (put_row (event_row e)) s.rows ∙ puts-map event_key event_row (λ x. refl) (e ∷ []) es
      ∙ ap (map event_row) at_end in
      moved old.now new.now (es ++ e ∷ []) s.stands made.schema rows
      (subst (IsKeyedBy event_key) at_end (IsKeyedBy-insert_by event_key es e s.keyed));
  others = λ has table apart was.
      let made = inserted old new e count h has in
      rest_in old.now new.now table was made.schema
      (at_place (λ (x : Table). x.tree ≢ has.stands.tree → new.now.trees x.tree ≡ old.now.trees x.tree) old.now.schema.tables
      was.place (in_tree was.tree table) made.others was.listed
      (trees_differ old.now.schema table event_table was has.stands apart));
  apart = λ has. let made = inserted old new e count h has in subst IsApart (sym made.schema) has.apart;
  sound = λ has. let made = inserted old new e count h has in made.sound;
}

-- ---- a change and its event

-- the archive's tables keep their rows where an event is noted
pub stores_noted : (mid new : Database) (e : Event) (t : Tables) → Notes mid new e → Stands mid.schema event_table → Stores mid t → Stores new t
stores_noted mid new e t n on s =
    let has : HasEvents mid.schema = record { stands = on; apart = s.schema.apart } in
    let messages = n.others has _ apart_messages.1 s.schema.common.messages in
    let records = n.others has _ apart_records.1 s.schema.common.records in
    let holds = n.others has _ apart_holds.1 s.schema.common.holds in
    let settings = n.others has _ apart_settings.1 s.schema.common.settings in
    let classes = n.others has _ apart_classes.1 s.schema.common.classes in
    let schedules = n.others has _ apart_schedules.1 s.schema.schedules in
    let dues = n.others has _ apart_dues.1 s.schema.dues in
    record {
      schema = record {
        common = record {
          messages = messages.stands;
          records = records.stands;
          holds = holds.stands;
          settings = settings.stands;
          classes = classes.stands;
        };
        schedules = schedules.stands;
        dues = dues.stands;
        apart = n.apart has;
      };
      messages = messages.rows ∙ s.messages;
      records = records.rows ∙ s.records;
      holds = holds.rows ∙ s.holds;
      settings = settings.rows ∙ s.settings;
      classes = classes.rows ∙ s.classes;
      schedules = schedules.rows ∙ s.schedules;
      dues = dues.rows ∙ s.dues;
    }

-- a note beside a change that leaves tables of other names alone
pub note_accompanies : (mid new : Database) (e : Event) → Notes mid new e → Accompanies KeepsEvents (NotesEvent e) mid new
note_accompanies mid new e n = record {
  stored = λ old t has rest s. stores_noted mid new e t n (rest event_table event_is_beside has).stands s;
  sound = λ old t has rest s sound.
      n.sound (record { stands = (rest event_table event_is_beside has).stands; apart = s.schema.apart });
  brought = λ old t has rest s es stored past.
      let event = rest event_table event_is_beside stored.stands in
      n.noted s.schema.apart es (record { stands = event.stands; rows = event.rows ∙ stored.rows; keyed = stored.keyed }) past;
}

-- ---- a history begins

pub begins : (old new : State) → Lays old new (event_table ∷ []) → Accompanies (λ db. Unit {0}) (λ was db. StoresEvents db []) old.now new.now
begins old new l = record {
  stored = λ was t has rest s.
      let messages = l.others _ s.schema.common.messages in
      let records = l.others _ s.schema.common.records in
      let holds = l.others _ s.schema.common.holds in
      let settings = l.others _ s.schema.common.settings in
      let classes = l.others _ s.schema.common.classes in
      let schedules = l.others _ s.schema.schedules in
      let dues = l.others _ s.schema.dues in
      record {
        schema = record {
          common = record {
            messages = messages.stands;
            records = records.stands;
            holds = holds.stands;
            settings = settings.stands;
            classes = classes.stands;
          };
          schedules = schedules.stands;
          dues = dues.stands;
          apart = l.apart s.schema.apart;
        };
        messages = messages.rows ∙ s.messages;
        records = records.rows ∙ s.records;
        holds = holds.rows ∙ s.holds;
        settings = settings.rows ∙ s.settings;
        classes = classes.rows ∙ s.classes;
        schedules = schedules.rows ∙ s.schedules;
        dues = dues.rows ∙ s.dues;
      };
  sound = λ was t has rest s is. l.sound;
  brought = λ was t has rest s. record { stands = l.made.0.stands; rows = l.made.0.empty; keyed = tt };
}
