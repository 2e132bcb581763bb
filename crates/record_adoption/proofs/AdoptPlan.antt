-- The rows of a plan are in order, fit, and are of one plan alone.
use Rattle.std.proofs.Common.{◌≡◌, ◌<◌, ◌^◌, ℕ, Bool, true, false, List, [], ◌∷◌, map, Option, Some, None}
use Rattle.std.proofs.Common.{Ordering, Less, nat_cmp, refl, sym, ap, subst, ◌∙◌, arith, IsPermutation}
use Rattle.std.proofs.lemmas.List.Elements.{recursion_from_All}
use Rattle.std.proofs.lemmas.List.Sorted.{IsPermutation-refl}
use Rattle.std.specs.List.{AllByRecursion}
use Rattle.std.specs.List.Sorted.{IsStrictlySortedBy}
use Rattle.std.specs.Cmp.Lexicographic.{slice_cmp}
use Rattle.sqlite_trees.specs.Tree.{IsAscending}
use Rattle.sqlite_keyed.proofs.ListLemmas.{map-map}
use Rattle.class_paths.specs.Path.{is_path}
use Rattle.class_plan.specs.declared.schedules.Unit.TheVariants.{Days, Months, Years}
use Rattle.class_plan.specs.declared.schedules.Action.{Action}
use Rattle.class_plan.specs.declared.schedules.Action.TheVariants.{Review, Transfer, Destroy}
use Rattle.class_plan.specs.declared.schedules.Schedule.{Schedule}
use Rattle.class_plan.specs.declared.schedules.Schedule.TheVariants.{Permanent, After}
use Rattle.class_plan.specs.Schedules.{IsInRange, IsInRangeIfAny}
use Rattle.class_plan.specs.Plans.{Row, Listing, IsPlan, IsClass, paths_of}
use Rattle.record_tables.specs.Rows.{Tables}
use Rattle.record_tables.specs.Changes.{ClassEntry, Rule}
use Rattle.record_tables.specs.Reads.{class_entry, rule, pair, AreClassRows, AreRules, ArePairs, FitsRule}
use Rattle.record_rows.specs.Rules.{rule_at, with_own, own_rules, rules_of, entry_of_row, classes_of, flag, action_number}
use Rattle.record_rows.specs.Merge.{schedule_in, merge}
use Rattle.record_rows.specs.Texts.{HasTexts}
use Rattle.record_rows.proofs.FirstRows.{texts-rules, texts-classes}
use Rattle.record_adoption.specs.Adoption.{first_pairs, second_pairs}
use Rattle.record_rows.proofs.Merged.{schedule_back, merged-rows}

abbrev path_cmp : List ℕ → List ℕ → Ordering
path_cmp = slice_cmp nat_cmp

-- ---- in order

-- rows of a plan in any view keep the order of their paths
paths_above : {X : Type 0} (path : X → List ℕ) (view : Row → X) → ((r : Row) → path (view r) ≡ r.path)
    → (q : List ℕ) (rows : List Row) → AllByRecursion (λ y. path_cmp q y ≡ Less) (paths_of rows)
    → AllByRecursion (λ x. path_cmp q (path x) ≡ Less) (map view rows)
paths_above path view same q [] h = tt
paths_above path view same q (r ∷ rows) h = (ap (path_cmp q) (same r) ∙ h.0, paths_above path view same q rows h.1)

pub rows_rise : {X : Type 0} (path : X → List ℕ) (view : Row → X) → ((r : Row) → path (view r) ≡ r.path)
    → (rows : List Row) → IsStrictlySortedBy path_cmp (paths_of rows) → IsAscending (λ x y. path_cmp (path x) (path y) ≡ Less) (map view rows)
unfolding IsStrictlySortedBy
rows_rise path view same [] h = tt
rows_rise path view same (r ∷ rows) h = (
  subst (λ q. AllByRecursion (λ x. path_cmp q (path x) ≡ Less) (map view rows)) (sym (same r))
      (paths_above path view same r.path rows h.0),
  rows_rise path view same rows h.1,
)

-- so the classes of the table are in order, with their texts or without
pub classes_listed : (view : Row → ClassEntry) → ((r : Row) → (view r).path ≡ r.path) → (t : Tables) (p : Listing) → IsPlan p
    → IsPermutation (map class_entry t.classes) (map view p.rows) → AreClassRows t (map view p.rows)
classes_listed view path t p is same = record { same = same; in_order = rows_rise (λ (c : ClassEntry). c.path) view path p.rows is.in_order }

-- the rules have paths after this one
abbrev AreAfter : List ℕ → List Rule → Type 0
AreAfter q = AllByRecursion (λ (r : Rule). path_cmp q r.path ≡ Less)

-- the paths of the rules ascend
abbrev Rise : List Rule → Type 0
Rise = IsAscending (λ (x y : Rule). path_cmp x.path y.path ≡ Less)

rules_above : (q : List ℕ) (rows : List Row) → AllByRecursion (λ y. path_cmp q y ≡ Less) (paths_of rows) → AreAfter q (own_rules rows)
rules_above q [] h = tt
rules_above q (r ∷ rows) h =
    let rest = rules_above q rows h.1 in
    elim r.schedule as (λ o. AreAfter q (with_own r.path o (own_rules rows))) [ None ↦ rest | Some s ↦ (h.0, rest) ]

own_rise : (rows : List Row) → IsStrictlySortedBy path_cmp (paths_of rows) → Rise (own_rules rows)
unfolding IsStrictlySortedBy
own_rise [] h = tt
own_rise (r ∷ rows) h =
    let rest = own_rise rows h.1 in
    elim r.schedule as (λ o. Rise (with_own r.path o (own_rules rows))) [ None ↦ rest | Some s ↦ (rules_above r.path rows h.0, rest) ]

-- no path is empty, so the root's row comes first
first_path : (q : List ℕ) → is_path q ≡ true → path_cmp [] q ≡ Less
unfolding is_path
first_path [] h = absurd (cc)
first_path (x ∷ q) h = refl

root_above : (R : List Row) (rows : List Row) → AllByRecursion (IsClass R) rows → AllByRecursion (λ y. path_cmp [] y ≡ Less) (paths_of rows)
root_above R [] h = tt
root_above R (r ∷ rows) h = (first_path r.path h.0.path, root_above R rows h.1)

pub rules_listed : (t : Tables) (p : Listing) → IsPlan p → IsPermutation (map rule t.schedules) (rules_of p) → AreRules t (rules_of p)
rules_listed t p is same = record {
  same = same;
  in_order = (rules_above [] p.rows (root_above p.rows p.rows (recursion_from_All (IsClass p.rows) p.rows is.classes)), own_rise p.rows is.in_order);
}

pub version_paired : (t : Tables) → map pair t.settings ≡ second_pairs → ArePairs t second_pairs
version_paired t same = record {
  same = subst (IsPermutation (map pair t.settings)) same (IsPermutation-refl (map pair t.settings));
  in_order = (tt, tt);
}

pub first_paired : (t : Tables) (root : List ℕ) → IsPermutation (map pair t.settings) (first_pairs root) → ArePairs t (first_pairs root)
first_paired t root same = record { same = same; in_order = ((refl, tt), (tt, tt)) }

-- ---- numbers of 32 bits

flag_fits : (y : Bool) → flag y < 2 ^ 32
flag_fits false = omega arith
flag_fits true = omega arith

action_fits : (a : Action) → action_number a < 2 ^ 32
action_fits Review = omega arith
action_fits Transfer = omega arith
action_fits Destroy = omega arith

rule_fits : (q : List ℕ) (s : Schedule) → IsInRange s → FitsRule (rule_at q s)
rule_fits q Permanent h = record { count = omega arith; unit = omega arith; action = omega arith; year_end = omega arith }
rule_fits q (After n Days a y) h = record { count = omega (arith, h.1); unit = omega arith; action = action_fits a; year_end = flag_fits y }
rule_fits q (After n Months a y) h = record { count = omega (arith, h.1); unit = omega arith; action = action_fits a; year_end = flag_fits y }
rule_fits q (After n Years a y) h = record { count = omega (arith, h.1); unit = omega arith; action = action_fits a; year_end = flag_fits y }

own_fits : (q : List ℕ) (o : Option Schedule) (rules : List Rule) → IsInRangeIfAny o → AllByRecursion FitsRule rules
    → AllByRecursion FitsRule (with_own q o rules)
own_fits q None rules h all = all
own_fits q (Some s) rules h all = (rule_fits q s h, all)

own_fit : (R : List Row) (rows : List Row) → AllByRecursion (IsClass R) rows → AllByRecursion FitsRule (own_rules rows)
own_fit R [] h = tt
own_fit R (r ∷ rows) h = own_fits r.path r.schedule (own_rules rows) h.0.range (own_fit R rows h.1)

pub rules_fit : (p : Listing) → IsPlan p → AllByRecursion FitsRule (rules_of p)
rules_fit p is = (rule_fits [] p.root is.root, own_fit p.rows p.rows (recursion_from_All (IsClass p.rows) p.rows is.classes))

-- ---- one plan alone

listed_paths : (rows : List Row) → map (λ (l : ClassEntry). l.path) (map entry_of_row rows) ≡ paths_of rows
listed_paths rows = map-map (λ (l : ClassEntry). l.path) entry_of_row rows

same_rows : (xs ys : List Row) → IsStrictlySortedBy path_cmp (paths_of xs) → map entry_of_row xs ≡ map entry_of_row ys
    → own_rules xs ≡ own_rules ys → xs ≡ ys
same_rows xs ys sorted same rules =
    let paths : paths_of xs ≡ paths_of ys = sym (listed_paths xs) ∙ ap (map (λ (l : ClassEntry). l.path)) same ∙ listed_paths ys in
    sym (merged-rows xs sorted) ∙ (λ i. merge (rules i) (same i)) ∙ merged-rows ys (subst (IsStrictlySortedBy path_cmp) paths sorted)

pub one_plan : (p q : Listing) → IsPlan p → rules_of p ≡ rules_of q → classes_of p ≡ classes_of q → p ≡ q
one_plan p q is rules classes =
    let head : rule_at [] p.root ≡ rule_at [] q.root = cc in
    let tail : own_rules p.rows ≡ own_rules q.rows = cc in
    let root : p.root ≡ q.root = sym (schedule_back [] p.root) ∙ ap schedule_in head ∙ schedule_back [] q.root in
    let rows = same_rows p.rows q.rows is.in_order classes tail in
    λ i. record { root = root i; rows = rows i }

-- one plan has these texts
pub one_text : (p q : Listing) (root : List ℕ) (classes : List ClassEntry) → IsPlan p → IsPlan q
    → HasTexts p root classes → HasTexts q root classes → p ≡ q
one_text p q root classes is other here there =
    let both : Some (rules_of p) ≡ Some (rules_of q) = sym (texts-rules p root classes is here) ∙ texts-rules q root classes other there in
    let rules : rules_of p ≡ rules_of q = cc in
    one_plan p q is rules (sym (texts-classes p root classes here) ∙ texts-classes q root classes there)
