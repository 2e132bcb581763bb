-- Another plan: its rows, and the due days by it.
use Rattle.std.proofs.Common.{◌≡◌, ℕ, pos, Bool, true, false, cond}
use Rattle.std.proofs.Common.{is_some, List, [], ◌∷◌, Some}
use Rattle.std.proofs.Common.{Ok, refl, sym, ap, subst, ◌∙◌, rules}
use Rattle.std.specs.Str.{bytes_eq}
use Rattle.std.proofs.lemmas.Bool.{and_parts}
use Rattle.std.specs.List.{list_all}
use Rattle.sqlite.specs.Store.{Ghosts}
use Rattle.sqlite.specs.Effect.{Database}
use Rattle.sqlite.specs.State.{HasCleanDisk, Survives}
use Rattle.sqlite.specs.Held.{Held, state}
use Rattle.sqlite.proofs.StateLemmas.{survives_weaker}
use Rattle.class_plan.specs.Plans as plans
use Rattle.class_plan.specs.Plans.{Listing, IsPlan, keeps, has}
use Rattle.record_reads.specs.Lookups.{Looks}
use Rattle.record_reads.specs.Quiet.{IsQuiet}
use Rattle.record_tables.specs.Tables.{HasCommonTables}
use Rattle.record_archive.specs.Archive.{Record, Archive, IsArchive, revise}
use Rattle.record_tables.specs.Rows.{Tables, Due, Stores, StoresCommon}
use Rattle.record_tables.specs.Changes.{ClassEntry, Rule, IsRevised}
use Rattle.record_tables.specs.Changes as tables
use Rattle.record_rows.specs.Rules.{rules_of, classes_of}
use Rattle.record_adoption.specs.Keeping.{StoresArchive}
use Rattle.record_store.specs.Stores.{StandsFor}
use Rattle.record_adoption.specs.Keeping.{dues_in}
use Rattle.record_store.specs.Revisions.{IsRevision, with_plan}
use Rattle.record_store.specs.declared.store.Store.{Store}
use Rattle.record_adoption.proofs.LaidLemmas.{listed-numbered, rules-numbered, same_list}
use Rattle.record_store.proofs.HoldLemmas.{same_name}

-- ---- the archive

has_kept : (K : List ℕ → Bool) (rows : List plans.Row) (q : List ℕ) → has rows q ≡ true
    → list_all (λ (r : plans.Row). K r.path) rows ≡ true → K q ≡ true
has_kept K [] q h all = absurd cc
has_kept K (x ∷ rows) q h all = go (bytes_eq q x.path) refl h (has_kept K rows q)
  where
    go : (b : Bool) → bytes_eq q x.path ≡ b → is_some (cond b (Some x) (plans.row_at q rows)) ≡ true
        → (has rows q ≡ true → list_all (λ (r : plans.Row). K r.path) rows ≡ true → K q ≡ true) → K q ≡ true
    go true e found more = subst (λ z. K z ≡ true) (sym (same_name q x.path e)) (and_parts (K x.path) _ all).0
    go false e found more = more found (and_parts (K x.path) _ all).1

pub revised_is_archive : (a : Archive) (p : Listing) → IsArchive a → IsPlan p → keeps a.plan p ≡ true → IsArchive (with_plan a p)
revised_is_archive a p is plan kept = record {
  plan = plan;
  records = λ i d low. let r = is.records i d low in record {
    number = r.number;
    message = r.message;
    day = r.day;
    class = has_kept (has p.rows) a.plan.rows _ r.class kept;
    stored = r.stored;
  };
  in_order = is.in_order;
  messages = is.messages;
  named = is.named;
  held = is.held;
  once = is.once;
}

pub is_revised : (a : Archive) (p : Listing) → keeps a.plan p ≡ true → revise a p ≡ Ok (with_plan a p)
is_revised a p h = rw h refl

-- ---- the tables

pub stores_revised : (a : Archive) (p : Listing) (rules : List Rule) (classes : List ClassEntry) (dues : List Due)
    → rules ≡ rules_of p → classes ≡ classes_of p → dues ≡ dues_in p a.records
    → (was db : Database) → StoresArchive was a → IsRevised rules classes dues was db → StoresArchive db (with_plan a p)
stores_revised a p rules classes dues same_rules same_classes same_dues was db s turns =
    let made = turns.stored s.tables s.stored s.keyed tt in
    record {
      tables = tables.with_plan rules classes dues s.tables;
      stored = made.0;
      keyed = made.1;
      keeps = record {
        messages = s.keeps.messages;
        records = s.keeps.records;
        holds = s.keeps.holds;
        settings = s.keeps.settings;
        classes = same_list _ _ (listed-numbered (pos 1) classes ∙ same_classes);
        schedules = same_list _ _ (rules-numbered (pos 1) rules ∙ same_rules);
      };
      dues = same_dues;
    }

-- ---- the tables that both versions have

pub common_of : (db : Database) (t : Tables) → Stores db t → StoresCommon db t
common_of db t s = record {
  schema = s.schema.common;
  messages = s.messages;
  records = s.records;
  holds = s.holds;
  settings = s.settings;
  classes = s.classes;
}

-- a read of the common tables is a look at an archive's
pub looks_common : {S : Type 0} (g : Ghosts S) (old new : Held S)
    → (old.in_transaction ≡ false → new.in_transaction ≡ false)
    → (HasCleanDisk (state g new) → HasCleanDisk (state g old))
    → IsQuiet g old new → Survives (state g old) (state g new) (λ _. HasCommonTables (state g old).now.schema → ⊥) → Looks g old new
looks_common g old new idle falls quiet survives = record {
  idle = idle;
  falls = falls;
  still = λ was _. quiet was;
  survives = survives_weaker (state g old) (state g new) _ _ (λ clean db none is. none is.common) survives;
}

-- ---- the command

-- the plan may replace the store's, and the due days are those by it
pub judged_revision : {S : Type 0} (g : Ghosts S) (old mid : Store S) (p q : Listing) (rows : List Record)
    (ds : List Due) → keeps old.plan p ≡ true → q ≡ p → ds ≡ dues_in q rows
    → ((a : Archive) → StandsFor g old a → StandsFor g mid a × (HasCleanDisk (state g mid.conn) → rows ≡ a.records))
    → (a : Archive) → StandsFor g old a → StandsFor g mid a × (HasCleanDisk (state g mid.conn) → IsRevision a q ds
    × (revise a p ≡ Ok (with_plan a q)))
judged_revision g old mid p q rows ds kept same days told a s =
    let t = told a s in
    let keeps_it : keeps a.plan p ≡ true = subst (λ l. keeps l p ≡ true) s.plan kept in (
      t.0,
      λ clean. (
        record { kept = subst (λ l. keeps a.plan l ≡ true) (sym same) keeps_it; dues = days ∙ ap (dues_in q) (t.1 clean) },
        subst (λ l. revise a p ≡ Ok (with_plan a l)) (sym same) (is_revised a p keeps_it),
      ),
    )
