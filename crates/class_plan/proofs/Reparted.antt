-- The parts of a plan give that plan.
use Rattle.std.proofs.Common.{◌≡◌, ℕ, ◌≤◌, nat_le, nat_lt, Bool, true, false, not, ◌&&◌, ◌||◌, if◌then◌else◌, List, []}
use Rattle.std.proofs.Common.{◌∷◌, ◌++◌, map, length, Option, Some, None, is_some, option_map, unwrap_or, Ok, Less}
use Rattle.std.proofs.Common.{Greater, is_eq, refl, ap, sym, subst, ◌∙◌, arith, append_assoc, inl, inr}
use Rattle.std.proofs.lemmas.Bool.{cases_Bool}
use Rattle.std.proofs.lemmas.Bool.Decides.{nat_tests}
use Rattle.std.proofs.lemmas.Cmp.{nat_list_cmp_total}
use Rattle.std.proofs.lemmas.List.{append-nil}
use Rattle.std.proofs.lemmas.List.Elements.{recursion_from_All}
use Rattle.std.proofs.lemmas.Map.Text.{is_eq-slice_cmp}
use Rattle.std.proofs.lemmas.Slice.Eq.{bytes_eq-Decides}
use Rattle.std.proofs.Math.Bool.{and-false}
use Rattle.std.specs.Str.{bytes_eq}
use Rattle.std.specs.List.{AllByRecursion, list_any}
use Rattle.std.specs.List.Sorted.{IsStrictlySortedBy}
use Rattle.std.specs.Ordering.{ordering_reverse}
use Rattle.class_paths.specs.Path.{is_path, has_parent_in, ancestors, unfiled}
use Rattle.class_plan.specs.declared.schedules.Schedule.{Schedule}
use Rattle.class_plan.specs.declared.schedules.Schedule.TheVariants.{Permanent, After}
use Rattle.class_plan.specs.Schedules.{most, IsInRange, IsInRangeIfAny}
use Rattle.class_plan.specs.Plans.{Row, Listing, row_at, has, with_row, open_at, paths_of, IsClass, IsPlan}
use Rattle.class_plan.specs.Entries.{Entry, row_of, rows_from, with_unfiled, is_known, is_faulty, own_of, stated_if}
use Rattle.class_plan.specs.Entries.{comes_again, class_count_of, contents_faults, listing_of}
use Rattle.class_plan.specs.Parts.{Part, in_range, if_in_range, part_entry, part_row, parts_contents, is_closed_unfiled, plan_of_parts}
use Rattle.class_plan.proofs.Opened.{path_cmp}
use Rattle.class_plan.proofs.Twice.{again, again-none, has-listing, length-listing}
use Rattle.class_plan.proofs.Judging.{HasGoodPaths, first-same, end-well, within}
use Rattle.class_plan.proofs.Parted.{parts-open}

-- ---- sorted classes, put one by one

abbrev IsAbove : List Row → List ℕ → Type 0
IsAbove rs q = AllByRecursion (λ r. path_cmp q r.path ≡ Greater) rs

put_last : (rs : List Row) (r : Row) → IsAbove rs r.path → with_row r rs ≡ rs ++ r ∷ []
put_last [] r h = refl
put_last (x ∷ xs) r h = rw h.0 (ap (λ ys. x ∷ ys) (put_last xs r h.1))

not_equal : (p q : List ℕ) → path_cmp p q ≡ Greater → bytes_eq p q ≡ false
not_equal p q e = sym (is_eq-slice_cmp p q) ∙ ap is_eq e

above_none : (rs : List Row) (q : List ℕ) → IsAbove rs q → has rs q ≡ false
above_none [] q h = refl
above_none (x ∷ xs) q h = rw (not_equal q x.path h.0) (above_none xs q h.1)

above_push : (rs : List Row) (r : Row) (q : List ℕ) → IsAbove rs q → path_cmp r.path q ≡ Less → IsAbove (rs ++ r ∷ []) q
above_push [] r q h e = (nat_list_cmp_total.antisymm q r.path ∙ ap ordering_reverse e, tt)
above_push (x ∷ xs) r q h e = (h.0, above_push xs r q h.1 e)

all_push : (rs : List Row) (r : Row) (qs : List (List ℕ)) → AllByRecursion (IsAbove rs) qs
    → AllByRecursion (λ q. path_cmp r.path q ≡ Less) qs → AllByRecursion (IsAbove (rs ++ r ∷ [])) qs
all_push rs r [] h e = tt
all_push rs r (q ∷ qs) h e = (above_push rs r q h.0 e.0, all_push rs r qs h.1 e.1)

abbrev paths_listed : List Entry → List (List ℕ)
paths_listed es = map (λ e. e.path) es

rows_sorted : (rs : List Row) (es : List Entry) → AllByRecursion (IsAbove rs) (paths_listed es)
    → IsStrictlySortedBy path_cmp (paths_listed es) → rows_from rs es ≡ rs ++ map row_of es
unfolding IsStrictlySortedBy
rows_sorted rs [] h s = sym (append-nil rs)
rows_sorted rs (e ∷ es) h s =
    ap (λ xs. rows_from xs es) (put_last rs (row_of e) h.0)
    ∙ rows_sorted (rs ++ row_of e ∷ []) es (all_push rs (row_of e) (paths_listed es) h.1 s.0) s.1
    ∙ append_assoc rs (row_of e ∷ []) (map row_of es)

again_sorted : (rs : List Row) (es : List Entry) → AllByRecursion (IsAbove rs) (paths_listed es)
    → IsStrictlySortedBy path_cmp (paths_listed es) → again rs es ≡ false
unfolding IsStrictlySortedBy
again_sorted rs [] h s = refl
again_sorted rs (e ∷ es) h s =
    rw (above_none rs e.path h.0) (ap (λ xs. again xs es) (put_last rs (row_of e) h.0)
    ∙ again_sorted (rs ++ row_of e ∷ []) es (all_push rs (row_of e) (paths_listed es) h.1 s.0) s.1)

none_above : (qs : List (List ℕ)) → AllByRecursion (IsAbove []) qs
none_above [] = tt
none_above (q ∷ qs) = (tt, none_above qs)

-- ---- contents without a fault

none_any : (p : Entry → Bool) (es : List Entry) → AllByRecursion (λ e. p e ≡ false) es → list_any p es ≡ false
none_any p [] h = refl
none_any p (e ∷ es) h = rw (h.0, none_any p es h.1)

paths_apart : (q : List ℕ) (rs : List Row) → AllByRecursion (λ p. path_cmp q p ≡ Less) (paths_of rs)
    → AllByRecursion (λ r. bytes_eq r.path q ≡ false) rs
paths_apart q [] h = tt
paths_apart q (x ∷ xs) h = (not_equal x.path q (nat_list_cmp_total.antisymm x.path q ∙ ap ordering_reverse h.0), paths_apart q xs h.1)

abbrev closes : Row → Bool
closes r = bytes_eq r.path unfiled && not r.is_open

none_closed : (rs : List Row) → AllByRecursion (λ r. bytes_eq r.path unfiled ≡ false) rs → AllByRecursion (λ r. closes r ≡ false) rs
none_closed [] h = tt
none_closed (x ∷ xs) h = (rw h.0, none_closed xs h.1)

flip_eq : (p q : List ℕ) (b : Bool) → bytes_eq p q ≡ b → bytes_eq q p ≡ b
flip_eq p q true e = (bytes_eq-Decides q p).1 (sym ((bytes_eq-Decides p q).0 e))
flip_eq p q false e = elim (cases_Bool (bytes_eq q p)) [
  | inl is ↦ let k : bytes_eq p q ≡ true = (bytes_eq-Decides p q).1 (sym ((bytes_eq-Decides q p).0 is)) in
      absurd (let x : true ≡ false = sym k ∙ e in (cc))
  | inr other ↦ other
]

closed_of : (rs : List Row) → IsStrictlySortedBy path_cmp (paths_of rs) → open_at rs unfiled ≡ true → AllByRecursion (λ r. closes r ≡ false) rs
unfolding IsStrictlySortedBy
closed_of [] s h = tt
closed_of (x ∷ xs) s h = elim (cases_Bool (bytes_eq unfiled x.path)) [
  | inl is ↦
      let here : x.path ≡ unfiled = sym ((bytes_eq-Decides unfiled x.path).0 is) in
      let opened : x.is_open ≡ true = rw is at h in
      let apart = paths_apart x.path xs s.0 in
      (rw (opened) (and-false (bytes_eq x.path unfiled)), none_closed xs (subst (λ q. AllByRecursion (λ r. bytes_eq r.path q ≡ false) xs) here apart))
  | inr other ↦ (rw (flip_eq unfiled x.path false other), closed_of xs s.1 (rw other at h))
]

-- ---- parts that show the rows of a plan

range_test : (n m : ℕ) → 1 ≤ n → n ≤ m → (nat_le 1 n && nat_le n m) ≡ true
range_test n m h k = grind (arith, nat_tests)

pub range-in : (s : Schedule) → IsInRange s → in_range s ≡ true
range-in Permanent h = refl
range-in (After n u a y) h = range_test n (most u) h.0 h.1

ranged_in : (s : Schedule) → IsInRange s → if_in_range s ≡ Some s
ranged_in s h = rw (range-in s h)

own_in : (o : Option Schedule) → IsInRangeIfAny o → own_of (stated_if (option_map if_in_range o)) ≡ o
own_in None h = refl
own_in (Some s) h = ap (λ x. own_of (stated_if (Some x))) (ranged_in s h)

faulty_in : (o : Option Schedule) → IsInRangeIfAny o → is_faulty (stated_if (option_map if_in_range o)) ≡ false
faulty_in None h = refl
faulty_in (Some s) h = ap (λ x. is_faulty (stated_if (Some x))) (ranged_in s h)

-- the classes that such parts list show those rows
rows_listed : (R : List Row) (ps : List Part) → AllByRecursion (IsClass R) (map part_row ps) → map row_of (map part_entry ps) ≡ map part_row ps
rows_listed R [] h = refl
rows_listed R (p ∷ ps) h = rw (own_in p.2 h.0.range, rows_listed R ps h.1)

paths_same : (ps : List Part) → paths_listed (map part_entry ps) ≡ paths_of (map part_row ps)
paths_same [] = refl
paths_same (p ∷ ps) = ap (λ qs. p.0.items ∷ qs) (paths_same ps)

entries_closed : (ps : List Part) → AllByRecursion (λ r. closes r ≡ false) (map part_row ps)
    → AllByRecursion (λ e. is_closed_unfiled e ≡ false) (map part_entry ps)
entries_closed [] h = tt
entries_closed (p ∷ ps) h = (h.0, entries_closed ps h.1)

entries_paths : (R : List Row) (ps : List Part) → AllByRecursion (IsClass R) (map part_row ps)
    → AllByRecursion (λ e. not (is_path e.path) ≡ false) (map part_entry ps)
entries_paths R [] h = tt
entries_paths R (p ∷ ps) h = (ap not h.0.path, entries_paths R ps h.1)

entries_parents : (R : List Row) (known : List ℕ → Bool) (ps : List Part) → ((q : List ℕ) → has R q ≡ known q)
    → AllByRecursion (IsClass R) (map part_row ps)
    → AllByRecursion (λ e. not (has_parent_in known e.path) ≡ false) (map part_entry ps)
entries_parents R known [] same h = tt
entries_parents R known (p ∷ ps) same h = (
  ap not (sym (first-same (has R) known same (ancestors p.0.items)) ∙ h.0.parent),
  entries_parents R known ps same h.1,
)

entries_stated : (R : List Row) (ps : List Part) → AllByRecursion (IsClass R) (map part_row ps)
    → AllByRecursion (λ e. is_faulty e.stated ≡ false) (map part_entry ps)
entries_stated R [] h = tt
entries_stated R (p ∷ ps) h = (faulty_in p.2 h.0.range, entries_stated R ps h.1)

has_if : (o : Option Row) → unwrap_or (option_map (λ r. r.is_open) o) false ≡ true → is_some o ≡ true
has_if None h = h
has_if (Some r) h = refl

has_open : (rs : List Row) → open_at rs unfiled ≡ true → has rs unfiled ≡ true
has_open rs h = has_if (row_at unfiled rs) h

unfiled_there : (rs : List Row) (b : Bool) → b ≡ has rs unfiled → open_at rs unfiled ≡ true
    → (if b then rs else with_row (record { path = unfiled; is_open = true; schedule = None }) rs) ≡ rs
unfiled_there rs true e h = refl
unfiled_there rs false e h = let k : false ≡ true = e ∙ has_open rs h in absurd (cc)

made_listing : (p : Listing) (root : Schedule) (o : Option Schedule) (rs : List Row) → o ≡ Some root → root ≡ p.root
    → rs ≡ p.rows → record { root = unwrap_or o Permanent; rows = rs } ≡ p
made_listing p root o rs a b d = rw (a, b, d)

pub parts-same : (p : Listing) (root : Schedule) (ps : List Part) → IsPlan p → root ≡ p.root → map part_row ps ≡ p.rows
    → plan_of_parts (parts_contents root ps) ≡ Ok p
parts-same p root ps plan same_root shows =
    let es = map part_entry ps in
    let f = parts_contents root ps in
    let classes : AllByRecursion (IsClass p.rows) (map part_row ps) = rw shows (recursion_from_All (IsClass p.rows) p.rows plan.classes) in
    let sorted : IsStrictlySortedBy path_cmp (paths_listed es) = rw (paths_same ps, shows) plan.in_order in
    let plain : rows_from [] es ≡ p.rows = rows_sorted [] es (none_above (paths_listed es)) sorted ∙ rows_listed p.rows ps classes ∙ shows in
    let listed : with_unfiled (rows_from [] es) ≡ p.rows = ap with_unfiled plain ∙ unfiled_there p.rows (has p.rows unfiled) refl plan.unfiled_open in
    let known : (q : List ℕ) → has p.rows q ≡ is_known es q = λ q. ap (λ rs. has rs q) (sym listed) ∙ has-listing es q in
    let closed : list_any is_closed_unfiled es ≡ false =
    none_any is_closed_unfiled es
    (entries_closed ps (rw shows (closed_of p.rows plan.in_order plan.unfiled_open))) in
    let paths = none_any (λ e. not (is_path e.path)) es (entries_paths p.rows ps classes) in
    let parents = none_any (λ e. not (has_parent_in (is_known es) e.path)) es (entries_parents p.rows (is_known es) ps known classes) in
    let twice : comes_again [] es ≡ false = again-none es ∙ again_sorted [] es (none_above (paths_listed es)) sorted in
    let ranged_root : if_in_range root ≡ Some root = ranged_in root (rw same_root plan.root) in
    let stated = none_any (λ e. is_faulty e.stated) es (entries_stated p.rows ps classes) in
    let schedules : (not (is_some (if_in_range root)) || list_any (λ e. is_faulty e.stated) es) ≡ false = rw (ranged_root, stated) in
    let count : length p.rows ≡ class_count_of es = ap length (sym listed) ∙ length-listing es twice in
    let few : nat_lt 4096 (class_count_of es) ≡ false = rw (← count) (within (length p.rows) plan.few) in
    let made : listing_of f ≡ p = made_listing p root (if_in_range root) (with_unfiled (rows_from [] es)) ranged_root same_root listed in
    let good : HasGoodPaths (contents_faults f) = record { path = paths; parent = parents; twice = twice } in
    parts-open f closed ∙ end-well (contents_faults f) (listing_of f) refl refl good schedules few refl ∙ ap (λ x. Ok x) made
