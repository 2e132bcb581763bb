-- What the tables keep once they are created.
use Rattle.std.proofs.Common.{◌≡◌, ℤ, ◌+ℤ◌, pos, List, [], ◌∷◌, map, refl, ap, subst, ◌∙◌, IsPermutation, arith}
use Rattle.std.proofs.lemmas.List.Sorted.{IsPermutation-refl}
use Rattle.class_plan.specs.Plans.{first_plan, IsPlan}
use Rattle.sqlite.specs.Effect.{Database}
use Rattle.record_tables.specs.Tables.{IsFree}
use Rattle.record_tables.specs.Changes.{ClassEntry, Rule, classes_from, schedules_from, with_plan, with_version}
use Rattle.record_tables.specs.Layouts.{IsLaid, no_rows}
use Rattle.record_tables.specs.Reads.{class_entry, pair, rule}
use Rattle.record_tables.specs.Rows.{Tables, Due, StoresKeyed}
use Rattle.record_rows.specs.Rules.{rules_of, classes_of}
use Rattle.record_archive.specs.Archive.{Archive, empty_archive, IsArchive}
use Rattle.record_adoption.specs.Adoption.{second_pairs}
use Rattle.record_adoption.specs.Keeping.{StoresArchive, hold_of, due_rows}

pub listed-numbered : (id : ℤ) (cs : List ClassEntry) → map class_entry (classes_from id cs) ≡ cs
listed-numbered id [] = refl
listed-numbered id (c ∷ cs) = ap (λ l. c ∷ l) (listed-numbered (id +ℤ pos 1) cs)

pub rules-numbered : (id : ℤ) (rs : List Rule) → map rule (schedules_from id rs) ≡ rs
rules-numbered id [] = refl
rules-numbered id (r ∷ rs) = ap (λ l. r ∷ l) (rules-numbered (id +ℤ pos 1) rs)

pub same_list : {X : Type 0} (xs ys : List X) → xs ≡ ys → IsPermutation xs ys
same_list xs ys e = subst (IsPermutation xs) e (IsPermutation-refl xs)

-- tables that keep an archive but for its plan and due days, which are put in place
pub stores_put : {db : Database} {a : Archive} (t : Tables) (rules : List Rule) (classes : List ClassEntry) (dues : List Due)
    → StoresKeyed db (with_plan rules classes dues t) → t.messages ≡ a.messages → t.records ≡ a.records → map hold_of t.holds ≡ a.holds
    → map pair t.settings ≡ second_pairs → (rules ≡ rules_of a.plan) × (classes ≡ classes_of a.plan) → dues ≡ due_rows a → StoresArchive db a
stores_put t rules classes dues made messages records holds settings plan same = record {
  tables = with_plan rules classes dues t;
  stored = made.0;
  keyed = made.1;
  keeps = record {
    messages = messages;
    records = records;
    holds = holds;
    settings = settings;
    classes = same_list _ _ (listed-numbered (pos 1) classes ∙ plan.1);
    schedules = same_list _ _ (rules-numbered (pos 1) rules ∙ plan.0);
  };
  dues = same;
}

-- the tables as they are created keep the empty archive
pub stores_laid : (old db : Database) → IsFree old.schema
    → IsLaid (rules_of first_plan) (classes_of first_plan) old db → StoresArchive db empty_archive
stores_laid old db free laid =
    stores_put (with_version no_rows) (rules_of first_plan) (classes_of first_plan) [] (laid.stored free) refl refl refl refl (refl, refl) refl

pub empty_is_archive : IsPlan first_plan → IsArchive empty_archive
empty_is_archive plan = record {
  plan = plan;
  records = λ i d low. absurd (omega arith);
  in_order = tt;
  messages = tt;
  named = λ i d low. absurd (omega arith);
  held = λ i d low. absurd (omega arith);
  once = tt;
}
