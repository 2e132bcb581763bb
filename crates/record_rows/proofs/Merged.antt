-- The classes of a plan, with their schedules, are read back from its rows.
use Rattle.std.proofs.Common.{◌≡◌, ℕ, ◌==◌, Bool, true, false, List, [], ◌∷◌, ◌++◌, map, Option, Some, None, Ordering}
use Rattle.std.proofs.Common.{Less, nat_cmp, is_eq, refl, ap, sym, ◌∙◌, append_assoc}
use Rattle.std.proofs.lemmas.List.{map-append}
use Rattle.std.proofs.lemmas.Map.Text.{is_eq-slice_cmp}
use Rattle.std.proofs.lemmas.Slice.Eq.{bytes_eq-Decides}
use Rattle.std.specs.Str.{bytes_eq}
use Rattle.std.specs.List.{AllByRecursion}
use Rattle.std.specs.List.Sorted.{IsStrictlySortedBy}
use Rattle.std.specs.Cmp.Lexicographic.{slice_cmp}
use Rattle.class_plan.specs.declared.schedules.Unit.TheVariants.{Days, Months, Years}
use Rattle.class_plan.specs.declared.schedules.Action.{Action}
use Rattle.class_plan.specs.declared.schedules.Action.TheVariants.{Review, Transfer, Destroy}
use Rattle.class_plan.specs.declared.schedules.Schedule.{Schedule}
use Rattle.class_plan.specs.declared.schedules.Schedule.TheVariants.{Permanent, After}
use Rattle.class_plan.specs.Plans.{Row, paths_of}
use Rattle.class_plan.specs.Parts.{Part, part_row}
use Rattle.record_tables.specs.Changes.{ClassEntry, Rule}
use Rattle.record_rows.specs.Rules.{action_number, flag, rule_at, with_own, own_rules, entry_of_row}
use Rattle.record_rows.specs.Merge.{action_at, schedule_in, own_in, rest_in, merge}

action_is : (a : Action) → action_at (action_number a) ≡ a
action_is Review = refl
action_is Transfer = refl
action_is Destroy = refl

flag_is : (y : Bool) → (flag y == 1) ≡ y
flag_is false = refl
flag_is true = refl

-- the schedule of a row is the one that was written
pub schedule_back : (q : List ℕ) (s : Schedule) → schedule_in (rule_at q s) ≡ s
schedule_back q Permanent = refl
schedule_back q (After n Days a y) = λ i. After n Days (action_is a i) (flag_is y i)
schedule_back q (After n Months a y) = λ i. After n Months (action_is a i) (flag_is y i)
schedule_back q (After n Years a y) = λ i. After n Years (action_is a i) (flag_is y i)

abbrev path_cmp : List ℕ → List ℕ → Ordering
path_cmp = slice_cmp nat_cmp

apart_with : (q r : List ℕ) (o : Option Schedule) (rules : List Rule) → bytes_eq q r ≡ false → own_in rules q ≡ None
    → own_in (with_own r o rules) q ≡ None
apart_with q r None rules e h = h
apart_with q r (Some s) rules e h = rw e refl

-- the schedules of later paths are not this path's
own_apart : (q : List ℕ) (rs : List Row) → AllByRecursion (λ y. path_cmp q y ≡ Less) (paths_of rs) → own_in (own_rules rs) q ≡ None
own_apart q [] h = refl
own_apart q (r ∷ rs) h =
    let other : bytes_eq q r.path ≡ false = sym (is_eq-slice_cmp q r.path) ∙ ap is_eq h.0 in
    apart_with q r.path r.schedule (own_rules rs) other (own_apart q rs h.1)

own_first : (q : List ℕ) (o : Option Schedule) (rules : List Rule) → own_in rules q ≡ None → own_in (with_own q o rules) q ≡ o
own_first q None rules h = h
own_first q (Some s) rules h = let same : bytes_eq q q ≡ true = (bytes_eq-Decides q q).1 refl in rw same (ap (λ z. Some z) (schedule_back q s))

rest_first : (q : List ℕ) (o : Option Schedule) (rules : List Rule) → rest_in o (with_own q o rules) ≡ rules
rest_first q None rules = refl
rest_first q (Some s) rules = refl

-- the rows of a plan are merged to its classes
pub merged-rows : (rs : List Row) → IsStrictlySortedBy path_cmp (paths_of rs) → merge (own_rules rs) (map entry_of_row rs) ≡ rs
unfolding IsStrictlySortedBy
merged-rows [] h = refl
merged-rows (r ∷ rs) h =
    let rules : List Rule = with_own r.path r.schedule (own_rules rs) in
    let first : own_in rules r.path ≡ r.schedule = own_first r.path r.schedule (own_rules rs) (own_apart r.path rs h.0) in
    let rest : rest_in r.schedule rules ≡ own_rules rs = rest_first r.path r.schedule (own_rules rs) in
    (λ i. record { path = r.path; is_open = r.is_open; schedule = first i } ∷ merge (rest_in (first i) rules) (map entry_of_row rs))
    ∙ ap (λ z. r ∷ merge z (map entry_of_row rs)) rest
    ∙ ap (λ z. r ∷ z) (merged-rows rs h.1)

pub merged-more : (xs : List Part) (p : Part) (rules rest : List Rule) (c : ClassEntry) (cs : List ClassEntry)
    (o : Option Schedule) (whole : List Row) → o ≡ own_in rules c.path → rest_in o rules ≡ rest
    → part_row p ≡ record { path = c.path; is_open = c.is_open; schedule = o } → map part_row xs
    ++ merge rules (c ∷ cs) ≡ whole → map part_row (xs ++ p ∷ []) ++ merge rest cs ≡ whole
merged-more xs p rules rest c cs o whole own tail same so =
    ap (λ l. l ++ merge rest cs) (map-append part_row xs (p ∷ []))
    ∙ append_assoc (map part_row xs) (part_row p ∷ []) (merge rest cs)
    ∙ ap (λ r. map part_row xs ++ (r ∷ merge rest cs)) same
    ∙ ap (λ z. map part_row xs ++ (record { path = c.path; is_open = c.is_open; schedule = o } ∷ merge z cs)) (sym tail)
    ∙ (λ i. map part_row xs ++ (record { path = c.path; is_open = c.is_open; schedule = own i } ∷ merge (rest_in (own i) rules) cs))
    ∙ so
