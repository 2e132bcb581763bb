-- What is left after a DROP of the table of due days.
use Rattle.std.proofs.Common.{◌≡◌, inl, inr, ℕ, List, [], ◌∷◌, None, Ok, IsTrue, Bool, true, false, is_some, ◌&&◌, MatchBool}
use Rattle.std.proofs.Common.{refl, sym, ap, subst, ◌∙◌, codes}
use Rattle.std.specs.List.{AllByRecursion, list_any}
use Rattle.sqlite.specs.Table.{Table}
use Rattle.sqlite.specs.Tree.{Trees}
use Rattle.sqlite_schema.specs.declared.command.Command.TheVariants.{DropTable}
use Rattle.sqlite_schema.specs.declared.schema.Keys.{Keys}
use Rattle.sqlite_schema.specs.Names.{same_name}
use Rattle.sqlite_rules.specs.Action.{deed_for}
use Rattle.sqlite_catalog.specs.Change.{KeepsRows, without_table}
use Rattle.sqlite.specs.Does.{Tally, is_acted_on}
use Rattle.sqlite.specs.Effect.{Database, IsDatabase}
use Rattle.sqlite.specs.State.{State, Writes, ExecutesInside, mode_of}
use Rattle.sqlite.specs.Schema.{Schema}
use Rattle.sqlite_catalog.proofs.StepLemmas.{same_itself}
use Rattle.sqlite_tied.specs.Compute.{everything}
use Rattle.record_tables.specs.Tables.{in_tree, Stands, IsApart, schedule_table, due_table}
use Rattle.record_tables.specs.Rows.{Tables, Stores, StoresFirst, StoresCommon, StoresKeyed}
use Rattle.record_tables.specs.Changes.{Puts, Always, without_dues}
use Rattle.record_tables.specs.Layouts.{Drops, Lays, HasDues, Empties, TellsDues, TellsAlone}
use Rattle.record_tables.proofs.Beside.{rests_without, apart_without}
use Rattle.record_tables.proofs.Loops.{rest_then}
use Rattle.record_tables.proofs.Definitions.{drop_dues, drops_due_table}
use Rattle.record_tables.proofs.LayLemmas.{compiled_in, ran_as, laid_beside}
use Rattle.record_tables.proofs.WriteLemmas.{went, same_value}

-- without a foreign key nothing acts on the rows that go
none_among : (keys : Keys) (table : Table) (ts : List Table) → AllByRecursion (λ (t : Table). t.references ≡ []) ts
    → list_any (λ (t : Table). list_any (λ ref. same_name table.name ref.parent && is_some (deed_for keys true ref)) t.references) ts ≡ false
none_among keys table [] apart = refl
none_among keys table (t ∷ ts) apart = rw apart.0 (none_among keys table ts apart.1)

none_acts : (schema : Schema) (keys : Keys) (table : Table) → IsApart schema → is_acted_on schema keys table ≡ false
none_acts schema keys table apart = none_among keys table schema.tables apart

if_not : (b : Bool) (P Q : Type 0) → b ≡ false → MatchBool b P Q → Q
if_not true P Q none h = absurd cc
if_not false P Q none h = h

-- what is left of a database that had due days
record Left (old new : State) (on : Stands old.now.schema due_table) : Type 0 where
  schema : new.now.schema ≡ without_table old.now.schema on.tree
  rows : KeepsRows new.now.schema.tables old.now.trees new.now.trees
  sound : IsDatabase new.now

left_by : (old new : State) (count : ℕ) → ExecutesInside 0 drop_dues [] old new (Ok count) → (has : HasDues old.now.schema) → Left old new has.0
left_by old new count h has =
    let on = has.0 in
    let c = compiled_in drop_dues old new count h.0 in
    let k = drops_due_table old.now.schema on c.0 c.1 in
    let w : Writes old new None (DropTable on.place) drop_dues [] count =
    ran_as drop_dues old new count c.0 (DropTable on.place) c.1 k.0 k.1 h.0 in
    let emptied = went (rw on.listed at w.changed) in
    let acts : is_acted_on old.now.schema (mode_of old).keys (in_tree on.tree due_table) ≡ false =
    none_acts old.now.schema (mode_of old).keys (in_tree on.tree due_table) has.1 in
    let still : emptied.0 ≡ old.now.trees =
    same_value (if_not (is_acted_on old.now.schema (mode_of old).keys (in_tree on.tree due_table)) _ _ acts emptied.1) in
    let uncounted = went emptied.2 in
    let tested = went uncounted.2 in
    let left = went tested.2 in
    let same : uncounted.0 ≡ emptied.0 = same_value uncounted.1 in
    let now : new.now ≡ left.0 = ap (λ (p : Tally × Database). p.1) (same_value left.2) in
    let is : new.now.schema ≡ without_table old.now.schema on.tree = ap (λ (d : Database). d.schema) now ∙ left.1.0 in
    record {
      schema = is;
      rows = subst (λ (s : Schema). KeepsRows s.tables old.now.trees new.now.trees) (sym is)
          (subst (λ (d : Database). KeepsRows (without_table old.now.schema on.tree).tables old.now.trees d.trees) (sym now)
          (subst (λ (t : Trees). KeepsRows (without_table old.now.schema on.tree).tables t left.0.trees) (same ∙ still) left.1.1));
      sound = w.sound;
    }

pub drops_dues : (old new : State) (count : ℕ) → IsTrue old.in_transaction
    → ExecutesInside 0 drop_dues [] old new (Ok count) → Drops old new
drops_dues old new count inside h = record {
  gone = λ has. (left_by old new count h has).schema;
  others = λ has t names was.
      let left = left_by old new count h has in
      rests_without old.now new.now due_table has.0 left.schema left.rows t was names;
  apart = λ has. apart_without old.now.schema new.now.schema has.0.tree (left_by old new count h has).schema has.1;
  sound = λ has. (left_by old new count h has).sound;
  committed = h.1.committed_is;
  mode = h.1.mode ∙ sym inside;
  is_open = h.1.is_open ∙ sym h.1.was_open;
}

pub names_differ : (a b : List ℕ) → same_name a b ≡ false → a ≡ b → ⊥
names_differ a b differ e =
    let same : same_name a b ≡ true = subst (λ n. same_name a n ≡ true) e (same_itself a) in
    let clash : true ≡ false = sym same ∙ differ in
    absurd cc

not_message : codes "message" ≡ codes "due_day" → ⊥
unfolding everything
not_message = names_differ (codes "message") (codes "due_day") refl

not_record : codes "record" ≡ codes "due_day" → ⊥
unfolding everything
not_record = names_differ (codes "record") (codes "due_day") refl

not_hold : codes "hold" ≡ codes "due_day" → ⊥
unfolding everything
not_hold = names_differ (codes "hold") (codes "due_day") refl

not_meta : codes "meta" ≡ codes "due_day" → ⊥
unfolding everything
not_meta = names_differ (codes "meta") (codes "due_day") refl

not_class : codes "class" ≡ codes "due_day" → ⊥
unfolding everything
not_class = names_differ (codes "class") (codes "due_day") refl

not_schedule : codes "schedule" ≡ codes "due_day" → ⊥
unfolding everything
not_schedule = names_differ (codes "schedule") (codes "due_day") refl

-- the five tables of both versions stay
dropped_common : (old new : State) (t : Tables) → Drops old new → HasDues old.now.schema → StoresCommon old.now t → StoresCommon new.now t
dropped_common old new t d has s =
    let messages = d.others has _ not_message s.schema.messages in
    let records = d.others has _ not_record s.schema.records in
    let holds = d.others has _ not_hold s.schema.holds in
    let settings = d.others has _ not_meta s.schema.settings in
    let classes = d.others has _ not_class s.schema.classes in
    record {
      schema = record {
        messages = messages.stands;
        records = records.stands;
        holds = holds.stands;
        settings = settings.stands;
        classes = classes.stands;
      };
      messages = messages.rows ∙ s.messages;
      records = records.rows ∙ s.records;
      holds = holds.rows ∙ s.holds;
      settings = settings.rows ∙ s.settings;
      classes = classes.rows ∙ s.classes;
    }

pub common_of : (db : Database) (t : Tables) → Stores db t → StoresCommon db t
common_of db t s = record {
  schema = s.schema.common;
  messages = s.messages;
  records = s.records;
  holds = s.holds;
  settings = s.settings;
  classes = s.classes;
}

pub first_common_of : (db : Database) (t : Tables) → StoresFirst db t → StoresCommon db t
first_common_of db t s = record {
  schema = s.schema.common;
  messages = s.messages;
  records = s.records;
  holds = s.holds;
  settings = s.settings;
  classes = s.classes;
}

-- the table of due days is created again, empty, beside the rows of the others
pub emptied : (old mid new : State) → Drops old mid → Lays mid new (due_table ∷ []) → Empties old new
emptied old mid new d l = record {
  stored = λ t s keyed alone.
      let has : HasDues old.now.schema = (s.schema.dues, s.schema.apart) in
      let k = dropped_common old mid t d has (common_of old.now t s) in
      let schedules = d.others has _ not_schedule s.schema.schedules in
      let last = l.others _ schedules.stands in
      let messages = l.others _ k.schema.messages in
      let records = l.others _ k.schema.records in
      let holds = l.others _ k.schema.holds in
      let settings = l.others _ k.schema.settings in
      let classes = l.others _ k.schema.classes in (
        record {
          schema = record {
            common = record {
              messages = messages.stands;
              records = records.stands;
              holds = holds.stands;
              settings = settings.stands;
              classes = classes.stands;
            };
            schedules = last.stands;
            dues = l.made.0.stands;
            apart = l.apart (d.apart has);
          };
          messages = messages.rows ∙ k.messages;
          records = records.rows ∙ k.records;
          holds = holds.rows ∙ k.holds;
          settings = settings.rows ∙ k.settings;
          classes = classes.rows ∙ k.classes;
          schedules = last.rows ∙ schedules.rows ∙ s.schedules;
          dues = l.made.0.empty;
        },
        record {
          messages = keyed.messages;
          records = keyed.records;
          holds = keyed.holds;
          settings = keyed.settings;
          classes = keyed.classes;
          schedules = keyed.schedules;
          dues = tt;
        },
      );
  sound = λ t s keyed alone. l.sound;
  beside = λ t s table apart was.
      let has : HasDues old.now.schema = (s.schema.dues, s.schema.apart) in
      let mid = d.others has table apart.dues was in
      let last = l.others table mid.stands in
      record { stands = last.stands; rows = last.rows ∙ mid.rows };
  committed = l.committed ∙ d.committed;
  mode = l.mode ∙ d.mode;
  is_open = l.is_open ∙ d.is_open;
}

-- the due days are removed, and the plan's rows are written
pub renewed : (old mid new : State) (change : Tables → Tables) → ((t : Tables) → change (without_dues t) ≡ change t)
    → TellsAlone old.now.schema true → Empties old mid → Puts mid new Always change → Puts old new Always change
renewed old mid new change same tells e p = record {
  stored = λ t s keyed allowed.
      let none_left = e.stored t s keyed (tells refl) in
      subst (StoresKeyed new.now) (same t) (p.stored (without_dues t) none_left.0 none_left.1 tt);
  beside = λ t s keyed allowed.
      let none_left = e.stored t s keyed (tells refl) in
      rest_then old.now mid.now new.now (e.beside t s) (p.beside (without_dues t) none_left.0 none_left.1 tt);
  sound = λ h t s keyed allowed.
      let alone = tells refl in
      let none_left = e.stored t s keyed alone in
      p.sound (e.sound t s keyed alone) (without_dues t) none_left.0 none_left.1 tt;
  committed = p.committed ∙ e.committed;
  mode = p.mode ∙ e.mode;
  is_open = p.is_open ∙ e.is_open;
}

-- the rows of version 1 stay where the later tables are created beside them
pub widened_bare : (old new : State) (t : Tables) → Lays old new (schedule_table ∷ due_table ∷ []) → StoresFirst old.now t → Stores new.now t
widened_bare old new t l s = laid_beside old new t l s.schema.apart (first_common_of old.now t s) s.schedules s.dues

-- the same where its due days are dropped first
pub widened : (old mid new : State) (t : Tables) → Drops old mid → Lays mid new (schedule_table ∷ due_table ∷ [])
    → Stands old.now.schema due_table → StoresFirst old.now t → Stores new.now t
widened old mid new t d l on s =
    let has : HasDues old.now.schema = (on, s.schema.apart) in
    laid_beside mid new t l (d.apart has) (dropped_common old mid t d has (first_common_of old.now t s)) s.schedules s.dues

-- version 1 has due days, as the flag says
pub told_with : {P : Type 0} (db : Database) (t : Tables) → StoresFirst db t → TellsDues db.schema true → (Stands db.schema due_table → P) → P
told_with {P} db t s tells go = elim s.schema.dues [ inl lacks ↦ absurd (let e = tells.without lacks in cc) | inr on ↦ go on ]
