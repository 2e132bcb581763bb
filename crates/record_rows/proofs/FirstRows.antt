-- The rows of version 1 and those of version 2 are of one plan.
use Rattle.std.proofs.Common.{◌≡◌, ℕ, Bool, List, [], ◌∷◌, ◌++◌, map, Option, Some, None, option_map, refl, ap, sym, subst, ◌∙◌}
use Rattle.std.proofs.lemmas.List.Elements.{recursion_from_All}
use Rattle.std.specs.List.{AllByRecursion}
use Rattle.std.specs.List.Sorted.{IsStrictlySortedBy}
use Rattle.std.specs.Ordering.{nat_cmp}
use Rattle.std.specs.Cmp.Lexicographic.{slice_cmp}
use Rattle.class_plan.specs.declared.schedules.Schedule.{Schedule}
use Rattle.class_plan.specs.Schedules.{IsInRangeIfAny}
use Rattle.class_plan.specs.Plans.{Row, Listing, IsPlan, IsClass, paths_of}
use Rattle.class_plan.specs.Texts.{◌>>=◌, schedule_of_bytes, text_of}
use Rattle.class_plan.proofs.Printed.{text-reads}
use Rattle.class_plan.proofs.Spelled.{text-read}
use Rattle.record_tables.specs.declared.rows.ClassRow.{ClassRow}
use Rattle.record_tables.specs.Changes.{ClassEntry, Rule}
use Rattle.record_tables.specs.CodeRows.{class_entry_of}
use Rattle.record_rows.specs.Rules.{rule_at, with_own, own_rules, rules_of, entry_of_row, classes_of, HasRows}
use Rattle.record_rows.specs.Merge.{schedule_in, merge}
use Rattle.record_rows.specs.Texts.{text_row, HasTexts, without_schedule, with_text, text_rules, rules_of_texts}
use Rattle.record_rows.proofs.Merged.{schedule_back, merged-rows}

-- ---- from the texts of a plan

with_text_is : (q : List ℕ) (o : Option Schedule) (rs : List Rule) → IsInRangeIfAny o
    → with_text q (option_map text_of o) (Some rs) ≡ Some (with_own q o rs)
with_text_is q None rs h = refl
with_text_is q (Some s) rs h = rw (text-reads s h) refl

rules_are : (R : List Row) (rows : List Row) → AllByRecursion (IsClass R) rows → text_rules (map text_row rows) ≡ Some (own_rules rows)
rules_are R [] h = refl
rules_are R (r ∷ rs) h = ap (with_text r.path (option_map text_of r.schedule)) (rules_are R rs h.1)
    ∙ with_text_is r.path r.schedule (own_rules rs) h.0.range

classes_are : (rows : List Row) → map without_schedule (map text_row rows) ≡ map entry_of_row rows
classes_are [] = refl
classes_are (r ∷ rs) = ap (λ z. entry_of_row r ∷ z) (classes_are rs)

-- the rows of version 2 of a plan's texts are those of the plan
pub texts-rules : (p : Listing) (root : List ℕ) (classes : List ClassEntry) → IsPlan p → HasTexts p root classes
    → rules_of_texts root classes ≡ Some (rules_of p)
texts-rules p root classes plan h =
    let rest : text_rules (map text_row p.rows) ≡ Some (own_rules p.rows) =
    rules_are p.rows p.rows (recursion_from_All (IsClass p.rows) p.rows plan.classes) in
    (λ i. rules_of_texts (sym h.same_root i) (sym h.same_classes i)) ∙ rw (text-reads p.root plan.root, rest) refl

pub texts-classes : (p : Listing) (root : List ℕ) (classes : List ClassEntry) → HasTexts p root classes → map without_schedule classes ≡ classes_of p
texts-classes p root classes h = ap (map without_schedule) (sym h.same_classes) ∙ classes_are p.rows

-- ---- and back

-- a class with the schedule of its text
abbrev parsed : ClassEntry → Row
parsed c = record { path = c.path; is_open = c.is_open; schedule = c.schedule >>= schedule_of_bytes }

-- the schedules of texts, by their rows
record AreParsed (cs : List ClassEntry) (rs : List Rule) : Type 0 where
  rules : own_rules (map parsed cs) ≡ rs
  texts : map text_row (map parsed cs) ≡ cs

parsed_with : (q : List ℕ) (o : Bool) (t : List ℕ) (found : Option Schedule) (rest : Option (List Rule))
    (cs : List ClassEntry) (rs : List Rule) → schedule_of_bytes t ≡ found → text_rules cs ≡ rest
    → ((more : List Rule) → rest ≡ Some more → AreParsed cs more) → with_text q (Some t) rest ≡ Some rs
    → AreParsed (record { path = q; is_open = o; schedule = Some t } ∷ cs) rs
parsed_with q o t None rest cs rs e f below h = let k : None ≡ Some rs = rw e at h in absurd (cc)
parsed_with q o t (Some s) None cs rs e f below h = let k : None ≡ Some rs = rw e at h in absurd (cc)
parsed_with q o t (Some s) (Some more) cs rs e f below h =
    let is : Some (rule_at q s ∷ more) ≡ Some rs = rw e at h in
    let same : rule_at q s ∷ more ≡ rs = cc in
    let tail = below more refl in
    record {
      rules = ap (λ z. with_own q z (own_rules (map parsed cs))) e ∙ ap (λ z. rule_at q s ∷ z) tail.rules ∙ same;
      texts = (λ i. record { path = q; is_open = o; schedule = option_map text_of (e i) } ∷ tail.texts i)
          ∙ ap (λ z. record { path = q; is_open = o; schedule = Some z } ∷ cs) (text-read t s e);
    }

parsed_one : (q : List ℕ) (o : Bool) (t : Option (List ℕ)) (cs : List ClassEntry) (rs : List Rule)
    → ((more : List Rule) → text_rules cs ≡ Some more → AreParsed cs more) → with_text q t (text_rules cs) ≡ Some rs
    → AreParsed (record { path = q; is_open = o; schedule = t } ∷ cs) rs
parsed_one q o None cs rs below h = let tail = below rs h in
    record { rules = tail.rules; texts = ap (λ z. record { path = q; is_open = o; schedule = None } ∷ z) tail.texts }
parsed_one q o (Some t) cs rs below h = parsed_with q o t (schedule_of_bytes t) (text_rules cs) cs rs refl refl below h

parsed_all : (cs : List ClassEntry) (rs : List Rule) → text_rules cs ≡ Some rs → AreParsed cs rs
parsed_all [] rs h = let same : [] ≡ rs = cc in record { rules = same; texts = refl }
parsed_all (c ∷ cs) rs h = parsed_one c.path c.is_open c.schedule cs rs (λ more e. parsed_all cs more e) h

cleared_are : (cs : List ClassEntry) → map entry_of_row (map parsed cs) ≡ map without_schedule cs
cleared_are [] = refl
cleared_are (c ∷ cs) = ap (λ z. without_schedule c ∷ z) (cleared_are cs)

listed_paths : (rows : List Row) → map (λ (l : ClassEntry). l.path) (map entry_of_row rows) ≡ paths_of rows
listed_paths [] = refl
listed_paths (r ∷ rs) = ap (λ z. r.path ∷ z) (listed_paths rs)

-- plans' classes that are listed alike and have the same schedules are equal
same_rows : (xs ys : List Row) → IsStrictlySortedBy (slice_cmp nat_cmp) (paths_of xs)
    → map entry_of_row xs ≡ map entry_of_row ys → own_rules xs ≡ own_rules ys → xs ≡ ys
same_rows xs ys sorted listed rules =
    let paths : paths_of xs ≡ paths_of ys = sym (listed_paths xs) ∙ ap (map (λ (l : ClassEntry). l.path)) listed ∙ listed_paths ys in
    sym (merged-rows xs sorted) ∙ (λ i. merge (rules i) (listed i)) ∙ merged-rows ys (subst (IsStrictlySortedBy (slice_cmp nat_cmp)) paths sorted)

back_with : (found : Option Schedule) (rest : Option (List Rule)) (p : Listing) (root : List ℕ)
    (classes : List ClassEntry) (R : List Rule) → schedule_of_bytes root ≡ found → text_rules classes ≡ rest
    → IsPlan p → rules_of_texts root classes ≡ Some R → HasRows p R (map without_schedule classes) → HasTexts p root classes
back_with None rest p root classes R e f plan h has = let k : None ≡ Some R = rw e at h in absurd (cc)
back_with (Some s) None p root classes R e f plan h has = let k : None ≡ Some R = rw (e, f) at h in absurd (cc)
back_with (Some s) (Some rs) p root classes R e f plan h has =
    let is : Some (rule_at [] s ∷ rs) ≡ Some R = rw (e, f) at h in
    let whole : rule_at [] p.root ∷ own_rules p.rows ≡ rule_at [] s ∷ rs = has.same_rules ∙ (let same : R ≡ rule_at [] s ∷ rs = cc in same) in
    let head : rule_at [] p.root ≡ rule_at [] s = cc in
    let tail : own_rules p.rows ≡ rs = cc in
    let first : p.root ≡ s = sym (schedule_back [] p.root) ∙ ap schedule_in head ∙ schedule_back [] s in
    let read = parsed_all classes rs f in
    let rows : p.rows ≡ map parsed classes = same_rows p.rows (map parsed classes) plan.in_order (has.same_classes
    ∙ sym (cleared_are classes)) (tail ∙ sym read.rules) in
    record { same_root = ap text_of first ∙ text-read root s e; same_classes = ap (map text_row) rows ∙ read.texts }

-- a plan of the rows of version 2 is that of the texts
pub rules-texts : (p : Listing) (root : List ℕ) (classes : List ClassEntry) (R : List Rule) → IsPlan p
    → rules_of_texts root classes ≡ Some R → HasRows p R (map without_schedule classes) → HasTexts p root classes
rules-texts p root classes R plan h has = back_with (schedule_of_bytes root) (text_rules classes) p root classes R refl refl plan h has

pub listed-cleared : (cs : List ClassRow) → map (λ c. without_schedule (class_entry_of c)) cs ≡ map without_schedule (map class_entry_of cs)
listed-cleared [] = refl
listed-cleared (c ∷ cs) = ap (λ z. without_schedule (class_entry_of c) ∷ z) (listed-cleared cs)

-- ---- the loop over the classes

abbrev pub before : List Rule → Option (List Rule) → Option (List Rule)
before rs o = option_map (λ more. rs ++ more) o
