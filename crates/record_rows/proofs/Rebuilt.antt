-- Rows that are compared with a plan's, and the plan that they come from.
use mathlib.Core.Bool.{beq}
use Rattle.std.proofs.Common.{◌≡◌, ℕ, ◌==◌, Bool, true, false, ◌&&◌, List, [], ◌∷◌, map, Option, Some, None, is_none, refl, ap, sym, ◌∙◌}
use Rattle.std.proofs.lemmas.Bool.Decides.{Decides-eqb}
use Rattle.std.proofs.lemmas.Slice.Eq.{bytes_eq-Decides}
use Rattle.std.specs.Bool.{Decides}
use Rattle.std.specs.Cmp.{booleans_Decides}
use Rattle.std.specs.Cmp.Lexicographic.{pointwise}
use Rattle.std.specs.Str.{bytes_eq}
use Rattle.class_plan.specs.Plans.{Listing, IsPlan}
use Rattle.class_plan.specs.Parts.{ClassAnswer, answer_row}
use Rattle.record_tables.specs.declared.rows.ScheduleRow.{ScheduleRow}
use Rattle.record_tables.specs.declared.rows.ClassRow.{ClassRow}
use Rattle.record_tables.specs.Changes.{ClassEntry, Rule}
use Rattle.record_tables.specs.CodeRows.{rule_of, class_entry_of}
use Rattle.record_rows.proofs.Tests.{both, three, five}
use Rattle.record_rows.specs.Rules.{rule_at, own_rules, rules_of, entry_of_row, classes_of, HasRows, same_rule, same_class, answer_entry}
use Rattle.record_rows.specs.Merge.{schedule_in, merge}
use Rattle.record_rows.proofs.Loops.{told-are}
use Rattle.record_rows.proofs.Merged.{schedule_back, merged-rows}
use Rattle.record_rows.proofs.Pairs.{pairs-decide}

pub and-true : (a b : Bool) → a ≡ true → (a && b) ≡ b
and-true a b e = ap (λ z. z && b) e

pub and-false : (a b : Bool) → a ≡ false → (a && b) ≡ false
and-false a b e = ap (λ z. z && b) e

rule_itself : (a : Rule) → same_rule a a ≡ true
rule_itself a = rw (
  (bytes_eq-Decides a.path a.path).1 refl,
  (Decides-eqb a.count a.count).1 refl,
  (Decides-eqb a.unit a.unit).1 refl,
  (Decides-eqb a.action a.action).1 refl,
  (Decides-eqb a.year_end a.year_end).1 refl,
) refl

rule_decides : (a b : Rule) → Decides (same_rule a b) (a ≡ b)
rule_decides a b = (
  λ e.
      let parts = five (bytes_eq a.path b.path) (a.count == b.count) (a.unit == b.unit) (a.action == b.action) (a.year_end == b.year_end) e in
      (λ i. record {
        path = (bytes_eq-Decides a.path b.path).0 parts.0 i;
        count = (Decides-eqb a.count b.count).0 parts.1 i;
        unit = (Decides-eqb a.unit b.unit).0 parts.2 i;
        action = (Decides-eqb a.action b.action).0 parts.3 i;
        year_end = (Decides-eqb a.year_end b.year_end).0 parts.4 i;
      }),
  λ e. ap (same_rule a) (sym e) ∙ rule_itself a,
)

none_is : (o : Option (List ℕ)) → is_none o ≡ true → None ≡ o
none_is None e = refl
none_is (Some t) e = absurd (cc)

class_decides : (q : List ℕ) (o : Bool) (b : ClassEntry)
    → Decides (bytes_eq q b.path && beq o b.is_open && is_none b.schedule) (record {
      path = q;
      is_open = o;
      schedule =
          None;
    } ≡ b)
class_decides q o b = (
  λ e.
      let parts = three (bytes_eq q b.path) (beq o b.is_open) (is_none b.schedule) e in
      (λ i. record {
        path = (bytes_eq-Decides q b.path).0 parts.0 i;
        is_open = (booleans_Decides o b.is_open).0 parts.1 i;
        schedule = none_is b.schedule parts.2 i;
      }),
  λ e. rw (
    (bytes_eq-Decides q b.path).1 (ap (λ (l : ClassEntry). l.path) e),
    (booleans_Decides o b.is_open).1 (ap (λ (l : ClassEntry). l.is_open) e),
    ap (λ (l : ClassEntry). is_none l.schedule) (sym e),
  ) refl,
)

-- the comparison with the rows of a plan decides whether the rows are the plan's
pub rows-decide : (p : Listing) (own : List ScheduleRow) (told : List ClassAnswer) (rules : List ScheduleRow)
    (classes : List ClassRow) (b : Bool) → map rule_of own ≡ rules_of p → map answer_row told ≡ p.rows
    → b ≡ (pointwise same_rule (map rule_of own) (map rule_of rules)
    && pointwise same_class (map answer_entry told) (map class_entry_of classes))
    → Decides b (HasRows p (map rule_of rules) (map class_entry_of classes))
rows-decide p own told rules classes b own_are told_are_rows is =
    let by_rule = pairs-decide rule_of rule_of same_rule (λ x y. rule_decides (rule_of x) (rule_of y)) own rules in
    let by_class = pairs-decide answer_entry class_entry_of same_class (λ x y. class_decides x.0.now x.1 (class_entry_of y)) told classes in
    let listed : map answer_entry told ≡ classes_of p = told-are told ∙ ap (map entry_of_row) told_are_rows in (
      λ e.
          let parts = both (pointwise same_rule (map rule_of own) (map rule_of rules))
          (pointwise same_class (map answer_entry told) (map class_entry_of classes)) (sym is ∙ e) in
          record { same_rules = sym own_are ∙ by_rule.0 parts.0; same_classes = sym listed ∙ by_class.0 parts.1 },
      λ h. is ∙ rw (by_rule.1 (own_are ∙ h.same_rules), by_class.1 (listed ∙ h.same_classes)) refl,
    )

-- ---- the plan that has some rows

pub same-root : (p : Listing) (rules : List ScheduleRow) (root : ScheduleRow) (own : List ScheduleRow)
    (classes : List ClassEntry) → rules ≡ root ∷ own → HasRows p (map rule_of rules) classes
    → schedule_in (rule_of root) ≡ p.root
same-root p rules root own classes cut h =
    let whole : rule_at [] p.root ∷ own_rules p.rows ≡ rule_of root ∷ map rule_of own = h.same_rules ∙ ap (map rule_of) cut in
    let head : rule_at [] p.root ≡ rule_of root = cc in
    ap schedule_in (sym head) ∙ schedule_back [] p.root

pub same-parts : (p : Listing) (rules : List ScheduleRow) (root : ScheduleRow) (own : List ScheduleRow)
    (classes : List ClassEntry) → IsPlan p → rules ≡ root ∷ own → HasRows p (map rule_of rules) classes
    → merge (map rule_of own) classes ≡ p.rows
same-parts p rules root own classes plan cut h =
    let whole : rule_at [] p.root ∷ own_rules p.rows ≡ rule_of root ∷ map rule_of own = h.same_rules ∙ ap (map rule_of) cut in
    let tail : own_rules p.rows ≡ map rule_of own = cc in
    (λ i. merge (sym tail i) (sym h.same_classes i)) ∙ merged-rows p.rows plan.in_order
