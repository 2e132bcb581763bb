-- What CREATE TABLE and CREATE INDEX make of a database, whatever tables it has.
use Rattle.std.proofs.Common.{◌≡◌, map, inl, inr, ℕ, List, [], ◌∷◌, ◌++◌, None, Ok, IsTrue}
use Rattle.std.proofs.Common.{refl, sym, ap, subst, ◌∙◌, length, Err}
use Rattle.std.proofs.lemmas.Bool.{cases_Bool}
use Rattle.std.specs.List.{AllByRecursion}
use Rattle.sqlite.specs.Table.{Table}
use Rattle.sqlite.specs.Schema.{Schema}
use Rattle.sqlite.specs.Compile.{table_defined_by}
use Rattle.sqlite.specs.Change.{next_tree}
use Rattle.sqlite_schema.specs.declared.command.Command.{Command}
use Rattle.sqlite_schema.specs.declared.command.Command.TheVariants.{CreateTable, CreateIndex}
use Rattle.sqlite_schema.specs.declared.schema.Index.{Index}
use Rattle.sqlite_schema.specs.declared.schema.Reference.{Reference}
use Rattle.sqlite_rules.specs.Lists.{Has}
use Rattle.sqlite_rules.proofs.ListLemmas.{has_right}
use Rattle.sqlite_catalog.specs.Change.{KeepsRows}
use Rattle.sqlite_catalog.specs.Calls.{CreatesTable}
use Rattle.sqlite.specs.Does.{Tally, MakesSequence, lacks_sequence, sequence_text}
use Rattle.sqlite.specs.Effect.{Database}
use Rattle.sqlite.specs.Listing.{understood}
use Rattle.sqlite.specs.State.{State, Runs, Writes, Executes, ExecutesIn, ExecutesInside}
use Rattle.sqlite.proofs.Callers.{IsPlain, command_of, statement_of, runs_as}
use Rattle.sqlite_resolve.specs.declared.compiled.Compiled.{Compiled}
use Rattle.sqlite_resolve.specs.Lowering.{Checked}
use Rattle.sqlite_tied.specs.Compute.{everything}
use Rattle.sqlite_trees.proofs.ListLemmas.{all-append, all_weaker}
use Rattle.record_tables.specs.Tables.{in_tree, Stands, IsApart, archive_tables, schedule_table, due_table}
use Rattle.record_tables.specs.Rows.{Tables, Stores, StoresCommon, StoresKeyed, schedule_row, due_row}
use Rattle.record_tables.specs.Layouts.{Lays, StandsEmpty, IsBare, Defines, DefinesIndex, IsIndexed, no_rows}
use Rattle.record_tables.proofs.Beside.{Adds, Extends, adds, extends_itself, extends_more, last_listed, small_tree, stands_empty}
use Rattle.record_tables.proofs.Beside.{rests_then, rests_in, stands_in}
use Rattle.record_tables.proofs.WriteLemmas.{went, same_value}

-- ---- what was run

pub compiled_in : (text : List ℕ) (old new : State) (count : ℕ) → Executes text [] old new (Ok count)
    → (c : Compiled) × (understood old.now.schema text ≡ Ok c)
unfolding ExecutesIn
compiled_in text old new count h = (h.0, h.1.is)

-- a text that is understood as this command ran it
pub ran_as : (text : List ℕ) (old new : State) (count : ℕ) (c : Compiled) (k : Command) → understood old.now.schema text ≡ Ok c → c.command ≡ k
    → IsBare text c → Executes text [] old new (Ok count) → Runs old new None k text [] count
ran_as text old new count c k is command bare h =
    subst (λ t. Runs old new None k t [] count) (ap (statement_of text) is ∙ bare.whole)
    (runs_as text [] old new old.now.schema refl k (ap command_of is ∙ command) (subst IsPlain (sym is) (bare.shows, bare.timeless)) count h)

-- ---- CREATE TABLE

abbrev references_in : Checked Table → List Reference
references_in (Ok t) = t.references
references_in (Err e) = []

sequence_apart : references_in (table_defined_by sequence_text) ≡ []
unfolding everything
sequence_apart = refl

-- the table that counts rowids may be created too
sequenced : (mid new : Database) → MakesSequence mid (Ok new) → Extends mid new
sequenced mid new h = elim (cases_Bool (lacks_sequence mid.schema)) [
  | inl lacks ↦
      let c : CreatesTable mid.schema sequence_text mid.trees new.schema new.trees = rw lacks at h in
      extends_more mid new c.table (adds mid new sequence_text c) (sym (ap references_in c.defined) ∙ sequence_apart)
  | inr has ↦
      let same : new ≡ mid = same_value (rw has at h) in
      subst (Extends mid) (sym same) (extends_itself mid)
]

made_in : (old new : State) (text : List ℕ) (table : Table) (count : ℕ) → Defines text table → Writes old new None CreateTable text [] count
    → (mid : Database) × Adds old.now mid table × Extends mid new.now
made_in old new text table count d write =
    let all = went write.changed in
    let first = went all.1 in
    let made = first.1 in
    let same : made.table ≡ in_tree 0 table = same_value (sym made.defined ∙ d.defined) in
    let added : Adds old.now first.0 (in_tree 0 table) = subst (Adds old.now first.0) same (adds old.now first.0 text made) in
    let now : new.now ≡ all.0 = ap (λ (p : Tally × Database). p.1) (same_value all.2) in (
      first.0,
      record { tables = added.tables; free = added.free; empty = added.empty; others = added.others },
      subst (Extends first.0) (sym now) (sequenced first.0 all.0 first.2),
    )

pub lays_table : (old new : State) (text : List ℕ) (table : Table) (count : ℕ) → Defines text table → IsTrue old.in_transaction
    → ExecutesInside 0 text [] old new (Ok count) → Lays old new (table ∷ [])
lays_table old new text table count d inside h =
    let c = compiled_in text old new count h.0 in
    let k = d.creates old.now.schema c.0 c.1 in
    let write : Writes old new None CreateTable text [] count = ran_as text old new count c.0 CreateTable c.1 k.0 k.1 h.0 in
    let m = made_in old new text table count d write in
    let small = small_tree new.now (length old.now.schema.tables) (in_tree (next_tree old.now.schema) table) write.sound
    (m.2.listed _ _ (last_listed old.now m.0 table m.1)) in
    let empty = stands_empty old.now m.0 table m.1 small in
    let rest = m.2.rests table empty.stands in
    let before = extends_more old.now m.0 table m.1 d.apart in
    record {
      made = (record { stands = rest.stands; empty = rest.rows ∙ empty.empty }, tt);
      others = λ t was. rests_then old.now m.0 new.now t was (before.rests t was) (m.2.rests t (before.rests t was).stands);
      apart = λ apart. m.2.apart (before.apart apart);
      sound = write.sound;
      committed = h.1.committed_is;
      mode = h.1.mode ∙ sym inside;
      is_open = h.1.is_open ∙ sym h.1.was_open;
    }

-- ---- CREATE INDEX

pub lays_index : (old new : State) (text : List ℕ) (table : Table) (index : Index) (count : ℕ) → DefinesIndex text table index
    → IsTrue old.in_transaction → ExecutesInside 0 text [] old new (Ok count) → Stands old.now.schema table
    → Lays old new [] × IsIndexed new.now.schema table index
lays_index old new text table index count d inside h on =
    let c = compiled_in text old new count h.0 in
    let k = d.creates old.now.schema on c.0 c.1 in
    let write : Writes old new None (CreateIndex on.place) text [] count = ran_as text old new count c.0 (CreateIndex on.place) c.1 k.0 k.1 h.0 in
    let all = went (rw on.listed at write.changed) in
    let made = all.1 in
    let now : new.now ≡ all.0 = ap (λ (p : Tally × Database). p.1) (same_value all.2) in
    let tables : new.now.schema.tables ≡ old.now.schema.tables = ap (λ (d : Database). d.schema.tables) now ∙ ap (λ (s : Schema). s.tables) made.is in
    let rows : KeepsRows old.now.schema.tables old.now.trees new.now.trees =
    subst (λ (d : Database). KeepsRows old.now.schema.tables old.now.trees d.trees) (sym now) made.rows in
    let its : made.index ≡ record index { tree = 0; table = on.tree } = same_value (sym made.defined ∙ d.defined on.tree) in
    let last = record index { tree = next_tree old.now.schema; table = on.tree } in
    let indexes : new.now.schema.indexes ≡ old.now.schema.indexes ++ last ∷ [] =
    ap (λ (d : Database). d.schema.indexes) now ∙ ap (λ (s : Schema). s.indexes) made.is
    ∙ ap (λ (i : Index). old.now.schema.indexes ++ record i { tree = next_tree old.now.schema; table = on.tree } ∷ []) its in (
      record {
        made = tt;
        others = λ t was. rests_in old.now new.now t was tables rows;
        apart = λ apart. subst (AllByRecursion (λ (t : Table). t.references ≡ [])) (sym tables) apart;
        sound = write.sound;
        committed = h.1.committed_is;
        mode = h.1.mode ∙ sym inside;
        is_open = h.1.is_open ∙ sym h.1.was_open;
      },
      record {
        stands = stands_in old.now.schema new.now.schema table on tables;
        tree = next_tree old.now.schema;
        listed = subst (λ is. Has is last) (sym indexes) (has_right old.now.schema.indexes (last ∷ []) last (inl refl));
      },
    )

-- ---- statements in turn

pub lays_then : (a b c : State) (xs ys : List Table) → Lays a b xs → Lays b c ys → Lays a c (xs ++ ys)
lays_then a b c xs ys one two = record {
  made = all-append (StandsEmpty c.now) xs ys (all_weaker (StandsEmpty b.now) (StandsEmpty c.now)
      (λ t e. let rest = two.others t e.stands in record { stands = rest.stands; empty = rest.rows ∙ e.empty }) xs one.made) two.made;
  others = λ t was. let mid = one.others t was in rests_then a.now b.now c.now t was mid (two.others t mid.stands);
  apart = λ apart. two.apart (one.apart apart);
  sound = two.sound;
  committed = two.committed ∙ one.committed;
  mode = two.mode ∙ one.mode;
  is_open = two.is_open ∙ one.is_open;
}

-- ---- what all of them leave

-- the tables of version 2 are there, and hold nothing
pub laid_empty : (old new : State) → Lays old new archive_tables → IsApart old.now.schema → StoresKeyed new.now no_rows
laid_empty old new l apart =
    let e = l.made in (
      record {
        schema = record {
          common = record {
            messages = e.0.stands;
            records = e.1.0.stands;
            holds = e.1.1.0.stands;
            settings = e.1.1.1.0.stands;
            classes = e.1.1.1.1.0.stands;
          };
          schedules = e.1.1.1.1.1.0.stands;
          dues = e.1.1.1.1.1.1.0.stands;
          apart = l.apart apart;
        };
        messages = e.0.empty;
        records = e.1.0.empty;
        holds = e.1.1.0.empty;
        settings = e.1.1.1.0.empty;
        classes = e.1.1.1.1.0.empty;
        schedules = e.1.1.1.1.1.0.empty;
        dues = e.1.1.1.1.1.1.0.empty;
      },
      record { messages = tt; records = tt; holds = tt; settings = tt; classes = tt; schedules = tt; dues = tt },
    )

-- the later tables are added to those of both versions
pub laid_beside : (old new : State) (t : Tables) → Lays old new (schedule_table ∷ due_table ∷ []) → IsApart old.now.schema
    → StoresCommon old.now t → t.schedules ≡ [] → t.dues ≡ [] → Stores new.now t
laid_beside old new t l apart s no_schedules no_dues =
    let e = l.made in
    let messages = l.others _ s.schema.messages in
    let records = l.others _ s.schema.records in
    let holds = l.others _ s.schema.holds in
    let settings = l.others _ s.schema.settings in
    let classes = l.others _ s.schema.classes in
    record {
      schema = record {
        common = record {
          messages = messages.stands;
          records = records.stands;
          holds = holds.stands;
          settings = settings.stands;
          classes = classes.stands;
        };
        schedules = e.0.stands;
        dues = e.1.0.stands;
        apart = l.apart apart;
      };
      messages = messages.rows ∙ s.messages;
      records = records.rows ∙ s.records;
      holds = holds.rows ∙ s.holds;
      settings = settings.rows ∙ s.settings;
      classes = classes.rows ∙ s.classes;
      schedules = e.0.empty ∙ sym (ap (map schedule_row) no_schedules);
      dues = e.1.0.empty ∙ sym (ap (map due_row) no_dues);
    }
