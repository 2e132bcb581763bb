-- Contents without a fault make a plan.
use Rattle.std.proofs.Common.{◌≡◌, ℕ, ◌≤◌, nat_lt, Bool, true, false, not, ◌||◌, cond, List, [], ◌∷◌, Option, Some}
use Rattle.std.proofs.Common.{None, unwrap_or, nat_cmp, refl, ap, sym, ◌∙◌, arith, if◌then◌else◌}
use Rattle.std.proofs.lemmas.Bool.Decides.{nat_tests}
use Rattle.std.proofs.lemmas.List.Elements.{All-from_recursion, recursion_from_All}
use Rattle.std.proofs.lemmas.Slice.Eq.{bytes_eq-Decides}
use Rattle.std.proofs.lemmas.Bool.{or_parts, not-false}
use Rattle.std.specs.Str.{bytes_eq}
use Rattle.std.specs.List.{AllByRecursion, list_any}
use Rattle.std.specs.List.Sorted.{IsStrictlySortedBy}
use Rattle.std.specs.Cmp.Lexicographic.{slice_cmp}
use Rattle.class_paths.specs.Path.{is_path, has_parent_in, ancestors, unfiled}
use Rattle.class_plan.specs.declared.faults.PlanFault.TheVariants.{BadPath, ParentMissing, PathTwice, TooManyClasses}
use Rattle.class_plan.specs.declared.schedules.Schedule.{Schedule}
use Rattle.class_plan.specs.declared.schedules.Schedule.TheVariants.{Permanent}
use Rattle.class_plan.specs.Faults.{HoldsNone}
use Rattle.class_plan.specs.Schedules.{IsInRange, IsInRangeIfAny}
use Rattle.class_plan.specs.Plans.{Row, has, with_row, open_at, open_row, paths_of, IsClass, IsPlan}
use Rattle.class_plan.specs.Entries.{Entry, Contents, row_of, rows_from, with_unfiled, is_known, class_count_of}
use Rattle.class_plan.specs.Entries.{contents_faults, listing_of, IsListable, IsListableEntry}
use Rattle.class_plan.proofs.Put.{has-put, open-put, all-put}
use Rattle.class_plan.proofs.Twice.{has-listing, length-listing}
use Rattle.class_plan.proofs.Judging.{first-same}

-- a test that no entry passes fails at each
none_pass : (p : Entry → Bool) (es : List Entry) → list_any p es ≡ false → AllByRecursion (λ e. p e ≡ false) es
none_pass p [] h = tt
none_pass p (e ∷ es) h = let parts = or_parts (p e) (list_any p es) h in (parts.0, none_pass p es parts.1)

-- what is true of each entry's row is true of the rows
all-rows_from : (P : Row → Type 0) (rs : List Row) (es : List Entry) → AllByRecursion P rs
    → AllByRecursion (λ e. P (row_of e)) es → AllByRecursion P (rows_from rs es)
all-rows_from P rs [] h k = h
all-rows_from P rs (e ∷ es) h k = all-rows_from P (with_row (row_of e) rs) es (all-put P (row_of e) rs k.0 h) k.1

all_unfiled : (P : Row → Type 0) (rs : List Row) (b : Bool) → P (open_row unfiled) → AllByRecursion P rs
    → AllByRecursion P (if b then rs else with_row (open_row unfiled) rs)
all_unfiled P rs true here h = h
all_unfiled P rs false here h = all-put P (open_row unfiled) rs here h

-- a listed class is one of the plan
class_of_entry : (rs : List Row) (es : List Entry) (e : Entry) → ((q : List ℕ) → has rs q ≡ is_known es q)
    → not (is_path e.path) ≡ false → not (has_parent_in (is_known es) e.path) ≡ false → IsListableEntry e
    → IsClass rs (row_of e)
class_of_entry rs es e same path parent listable =
    record {
      path = not-false (is_path e.path) path;
      parent = first-same (has rs) (is_known es) same (ancestors e.path)
          ∙ not-false (has_parent_in (is_known es) e.path) parent;
      range = listable.range;
    }

classes_of_entries : (rs : List Row) (all es : List Entry) → ((q : List ℕ) → has rs q ≡ is_known all q)
    → AllByRecursion (λ e. not (is_path e.path) ≡ false) es
    → AllByRecursion (λ e. not (has_parent_in (is_known all) e.path) ≡ false) es
    → AllByRecursion IsListableEntry es → AllByRecursion (λ e. IsClass rs (row_of e)) es
classes_of_entries rs all [] same a b d = tt
classes_of_entries rs all (e ∷ es) same a b d = (class_of_entry rs all e same a.0 b.0 d.0, classes_of_entries rs all es same a.1 b.1 d.1)

unfiled_class : (rs : List Row) → IsClass rs (open_row unfiled)
unfolding is_path
unfiled_class rs = record { path = refl; parent = refl; range = tt }

-- where `unfiled` is a class, it is open
abbrev IsOpenIf : List Row → Type 0
IsOpenIf rs = has rs unfiled ≡ true → open_at rs unfiled ≡ true

open_step : (b o h x : Bool) → (b ≡ true → o ≡ true) → (h ≡ true → x ≡ true) → (b || h) ≡ true → cond b o x ≡ true
open_step true o h x f g e = f refl
open_step false o h x f g e = g e

open_put : (e : Entry) (rs : List Row) → IsListableEntry e → IsOpenIf rs → IsOpenIf (with_row (row_of e) rs)
open_put e rs listable is h =
    open-put unfiled (row_of e) rs
    ∙ open_step (bytes_eq unfiled e.path) e.is_open (has rs unfiled) (open_at rs unfiled) (λ t.
    listable.unfiled_open ((bytes_eq-Decides e.path unfiled).1 (sym ((bytes_eq-Decides unfiled e.path).0 t)))) is
    (sym (has-put unfiled (row_of e) rs) ∙ h)

open_rows : (rs : List Row) (es : List Entry) → AllByRecursion IsListableEntry es → IsOpenIf rs → IsOpenIf (rows_from rs es)
open_rows rs [] k is = is
open_rows rs (e ∷ es) k is = open_rows (with_row (row_of e) rs) es k.1 (open_put e rs k.0 is)

open_unfiled : (rs : List Row) (b : Bool) → b ≡ has rs unfiled → IsOpenIf rs
    → open_at (if b then rs else with_row (open_row unfiled) rs) unfiled ≡ true
open_unfiled rs true e is = is (sym e)
open_unfiled rs false e is = open-put unfiled (open_row unfiled) rs
    ∙ ap (λ b. cond b true (open_at rs unfiled)) ((bytes_eq-Decides unfiled unfiled).1 refl)

root_range : (o : Option Schedule) → IsInRangeIfAny o → IsInRange (unwrap_or o Permanent)
root_range None h = tt
root_range (Some s) h = h

few_of : (n : ℕ) → nat_lt 4096 n ≡ false → n ≤ 4096
few_of n h = grind (arith, nat_tests)

pub made-plan : (f : Contents) → IsListable f → HoldsNone (contents_faults f)
    → IsStrictlySortedBy (slice_cmp nat_cmp) (paths_of (listing_of f).rows) → IsPlan (listing_of f)
made-plan f listable none order =
    let es = f.entries in
    let rs = with_unfiled (rows_from [] es) in
    let entries = recursion_from_All IsListableEntry es listable.entries in
    let paths = none_pass (λ e. not (is_path e.path)) es (none BadPath (omega arith)) in
    let parents = none_pass (λ e. not (has_parent_in (is_known es) e.path)) es (none ParentMissing (omega arith)) in
    let rows : AllByRecursion (λ e. IsClass rs (row_of e)) es = classes_of_entries rs es es (has-listing es) paths parents entries in
    let classes : AllByRecursion (IsClass rs) rs =
    all_unfiled (IsClass rs) (rows_from [] es) (has (rows_from [] es) unfiled) (unfiled_class rs)
    (all-rows_from (IsClass rs) [] es tt rows) in
    let count = length-listing es (none PathTwice (omega arith)) in
    let few = few_of (class_count_of es) (none TooManyClasses (omega arith)) in
    record {
      root = root_range f.root listable.root;
      classes = All-from_recursion (IsClass rs) rs classes;
      unfiled_open =
          open_unfiled (rows_from [] es) (has (rows_from [] es) unfiled) refl (open_rows [] es entries (λ h.
          absurd (let e : false ≡ true = h in (cc))));
      few = omega arith;
      in_order = order;
    }
