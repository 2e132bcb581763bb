-- What transactions make of the rows that were found, and the store over them.
use Rattle.std.proofs.Common.{◌≡◌, ℕ, List, [], ◌∷◌, map, refl, sym, ap, subst, ◌∙◌, arith, inl, inr}
use Rattle.sqlite.specs.Store.{Ghosts}
use Rattle.sqlite.specs.Schema.{Schema}
use Rattle.sqlite.specs.Tree.{Trees}
use Rattle.sqlite.specs.Effect.{Database, IsDatabase}
use Rattle.sqlite.specs.State.{HasCleanDisk, Survives}
use Rattle.sqlite.specs.Held.{Held, state}
use Rattle.sqlite.proofs.StateLemmas.{survives_then, survives_weaker}
use Rattle.class_plan.specs.Plans.{Listing, first_plan}
use Rattle.class_plan.proofs.Keeping.{first-plan}
use Rattle.record_tables.specs.Rows.{Due}
use Rattle.record_tables.specs.Changes.{ClassEntry, Rule, with_version, IsRevised}
use Rattle.record_tables.specs.CodeRows.{rule_of, class_entry_of}
use Rattle.record_tables.specs.Layouts.{IsLaid, IsMoved, no_rows}
use Rattle.record_tables.specs.Reads.{Pair}
use Rattle.record_tables.specs.declared.rows.ClassRow.{ClassRow}
use Rattle.record_tables.specs.declared.rows.ScheduleRow.{ScheduleRow}
use Rattle.record_rows.specs.Rules.{rules_of, classes_of}
use Rattle.record_archive.specs.Archive.{Archive, IsArchive, empty_archive}
use Rattle.record_adoption.specs.Adoption.{Finds, FindsSecond, FindsFirst, FindsNothing, IsKeyed, Sees, TellsPlan, LeavesArchive, StoresEach}
use Rattle.record_adoption.specs.Adoption.{first_pairs}
use Rattle.record_adoption.specs.Keeping.{StoresArchive, due_rows}
use Rattle.record_adoption.specs.declared.plan_rows.PlanRows.{PlanRows}
use Rattle.record_adoption.proofs.AdoptReads.{Reads, holds_after}
use Rattle.record_adoption.proofs.LaidLemmas.{stores_put, empty_is_archive}

first_value : List Pair → List ℕ
first_value [] = []
first_value (p ∷ ps) = p.value

pub same_text : (s t : List ℕ) → first_pairs s ≡ first_pairs t → s ≡ t
unfolding first_value
same_text s t e = ap first_value e

-- the slices of a plan's rows are those of the plan
pub tells_slices : {plan : PlanRows} {p : Listing} {rules : List ScheduleRow} {classes : List ClassRow} → TellsPlan plan p
    → rules ≡ plan.rules.items → classes ≡ plan.classes.items → (map rule_of rules ≡ rules_of p) × (map class_entry_of classes ≡ classes_of p)
tells_slices tells rules classes = (ap (map rule_of) rules ∙ tells.rules, ap (map class_entry_of) classes ∙ tells.classes)

module _ {was db : Database} {a : Archive} {rules : List Rule} {classes : List ClassEntry} {dues : List Due}
    (same_plan : (rules ≡ rules_of a.plan) × (classes ≡ classes_of a.plan)) (same_dues : dues ≡ due_rows a) where
  -- the due days replace those that were there
  pub stores_settled : FindsSecond was a → IsRevised rules classes dues was db → StoresArchive db a
  stores_settled h turns =
      stores_put h.tables rules classes dues (turns.stored h.tables h.stored h.keyed tt) h.keeps.messages h.keeps.records h.keeps.holds
      h.keeps.settings same_plan same_dues

  -- the rows of version 1 are moved over
  pub stores_moved : FindsFirst was a → IsMoved rules classes dues was db → StoresArchive db a
  stores_moved h moved =
      stores_put (with_version h.tables) rules classes dues (moved.stored h.tables h.stored h.keyed) h.keeps.messages h.keeps.records
      h.keeps.holds refl same_plan same_dues

-- ---- crashes

-- any trees keep each of these archives, where there is none
vacuous : (was : Database) (Is : Archive → Type 0) (trees : Trees) → ((a : Archive) → Is a → ⊥) → StoresEach was Is trees
vacuous was Is trees none = record {
  db = record { schema = was.schema; trees = trees };
  stored = λ a is. absurd (none a is);
  sound = λ sound a is. absurd (none a is);
  same = refl;
}

-- reads alone
pub leaves_read : {S : Type 0} {g : Ghosts S} {Are : Schema → Type 0} {old new : Held S} (Is : Archive → Type 0)
    → Sees g Are old new → ((a : Archive) → Is a → Are (state g old).now.schema) → LeavesArchive g old new Is
leaves_read {g} {old} {new} Is sees are =
    survives_weaker (state g old) (state g new) _ _ (λ clean trees none.
    vacuous (state g old).now Is trees (λ a is. none (are a is))) sees.survives

-- a read, and then a call that leaves archives
pub leaves_then : {S : Type 0} {g : Ghosts S} {Are : Schema → Type 0} {old mid : Held S} (new : Held S) (Was Is : Archive → Type 0)
    → Reads g Are old mid → ((a : Archive) → Was a → Are (state g old).now.schema)
    → (HasCleanDisk (state g mid) → (a : Archive) → Was a → Is a) → LeavesArchive g mid new Is → LeavesArchive g old new Was
leaves_then {g} {old} {mid} new Was Is one are to last =
    survives_then (state g old) (state g mid) (state g new) _ _ _
    (λ clean trees none. vacuous (state g old).now Was trees (λ a was. none (are a was)))
    (λ clean trees left.
    let before : HasCleanDisk (state g mid) = omega (arith, last.clean, clean) in
    record {
      db = left.db;
      stored = λ a was. left.stored a (to before a was);
      sound = λ sound a was. left.sound (holds_after IsDatabase one before (are a was) sound) a (to before a was);
      same = left.same;
    }) one.sees.survives last

-- a transaction alone
pub leaves_made : {S : Type 0} (g : Ghosts S) (old new : Held S) (Is : Archive → Type 0) (Good : Database → Type 0)
    → ((db : Database) → Good db → (a : Archive) → Is a → StoresArchive db a × (IsDatabase (state g old).now → IsDatabase db))
    → Survives (state g old) (state g new) (λ (trees : Trees). (db : Database) × Good db × (trees ≡ db.trees)) → LeavesArchive g old new Is
leaves_made g old new Is Good made one = survives_weaker (state g old) (state g new) _ _ (λ clean trees left. record {
  db = left.0;
  stored = λ a is. (made left.0 left.1 a is).0;
  sound = λ sound a is. (made left.0 left.1 a is).1 sound;
  same = left.2;
}) one

-- what holds of archives holds of fewer
pub leaves_weaker : {S : Type 0} (g : Ghosts S) (old new : Held S) (Is More : Archive → Type 0)
    → ((a : Archive) → More a → Is a) → LeavesArchive g old new Is → LeavesArchive g old new More
leaves_weaker g old new Is More to one = survives_weaker (state g old) (state g new) _ _ (λ clean trees left. record {
  db = left.db;
  stored = λ a more. left.stored a (to a more);
  sound = λ sound a more. left.sound sound a (to a more);
  same = left.same;
}) one

-- the tables are created
pub leaves_laid : {S : Type 0} (g : Ghosts S) (old new : Held S) (rules : List Rule) (classes : List ClassEntry)
    → rules ≡ rules_of first_plan → classes ≡ classes_of first_plan
    → Survives (state g old) (state g new) (λ (trees : Trees). (db : Database) × IsLaid rules classes (state g old).now db × (trees ≡ db.trees))
    → LeavesArchive g old new (FindsNothing (state g old).now)
leaves_laid g old new rules classes same_rules same_classes one =
    leaves_made g old new (FindsNothing (state g old).now) (IsLaid rules classes (state g old).now) (λ db laid a none. (
      subst (StoresArchive db) (sym none.1)
          (stores_put (with_version no_rows) rules classes [] (laid.stored none.0) refl refl refl refl (same_rules, same_classes) refl),
      λ sound. laid.sound none.0,
    )) one

pub keyed_of : (a : Archive) → IsArchive a → IsKeyed a
keyed_of a is = record { plan = is.plan; once = is.once }

-- ---- an archive that was found

is_keyed : (was : Database) (a : Archive) → Finds was a → IsKeyed a
is_keyed was a (inl h) = h.1
is_keyed was a (inr h) = subst IsKeyed (sym h.1) (keyed_of empty_archive (empty_is_archive first-plan))

-- it is found again in tables that store it
pub finds_again : (was db : Database) (a : Archive) → Finds was a → StoresArchive db a → Finds db a
finds_again was db a found h =
    inl (inl (record { tables = h.tables; stored = h.stored; keyed = h.keyed; keeps = h.keeps }), is_keyed was a found)
