-- What holds of every plan: over its map, and after a class is added.
use Rattle.std.proofs.Common.{◌≡◌, ℕ, ◌<◌, Bool, true, false, cond, List, [], ◌∷◌, length, Vec, Global, Ordering, Less, nat_cmp, refl, ◌∙◌, arith}
use Rattle.std.proofs.lemmas.List.Elements.{All-from_recursion, recursion_from_All, All-weaker}
use Rattle.std.proofs.lemmas.Bool.{or_right}
use Rattle.std.specs.List.{AllByRecursion}
use Rattle.std.specs.List.Sorted.{IsStrictlySortedBy}
use Rattle.std.specs.Cmp.Lexicographic.{slice_cmp}
use Rattle.std.specs.Str.{bytes_eq}
use Rattle.std.specs.Map.{keys_of}
use Rattle.class_paths.specs.Path.{is_path, has_parent_in, first_passes, ancestors, unfiled}
use Rattle.class_plan.specs.Plans.{Row, Listing, has, with_row, open_at, open_row, paths_of, first_plan, IsClass, IsPlan}
use Rattle.class_plan.specs.Fields.{MapEntry, rows}
use Rattle.class_plan.proofs.Put.{has-put, open-put, all-put, length-put}

abbrev pub key_cmp : Vec ℕ Global → Vec ℕ Global → Ordering
key_cmp x y = slice_cmp nat_cmp x.items y.items

less_paths : (k : Vec ℕ Global) (es : List MapEntry) → AllByRecursion (λ y. key_cmp k y ≡ Less) (keys_of es)
    → AllByRecursion (λ q. slice_cmp nat_cmp k.items q ≡ Less) (paths_of (rows es))
less_paths k [] h = tt
less_paths k (e ∷ es) h = (h.0, less_paths k es h.1)

-- a map's order is that of its rows
pub sorted-rows : (es : List MapEntry) → IsStrictlySortedBy key_cmp (keys_of es) → IsStrictlySortedBy (slice_cmp nat_cmp) (paths_of (rows es))
unfolding IsStrictlySortedBy
sorted-rows [] h = tt
sorted-rows (e ∷ es) h = (less_paths e.0 es h.0, sorted-rows es h.1)

pub passes-more : (f g : List ℕ → Bool) → ((q : List ℕ) → f q ≡ true → g q ≡ true) → (ps : List (List ℕ))
    → first_passes f ps ≡ true → first_passes g ps ≡ true
passes-more f g h [] e = refl
passes-more f g h (p ∷ ps) e = h p e

pub has-more : (r : Row) (rs : List Row) (q : List ℕ) → has rs q ≡ true → has (with_row r rs) q ≡ true
has-more r rs q h = has-put q r rs ∙ or_right (bytes_eq q r.path) (has rs q) h

-- what holds of a class still holds after another is put
pub class-more : (r : Row) (rs : List Row) (c : Row) → IsClass rs c → IsClass (with_row r rs) c
class-more r rs c h =
    record {
      path = h.path;
      parent =
          passes-more (has rs) (has (with_row r rs)) (has-more r rs) (ancestors c.path) h.parent;
      range = h.range;
    }

open_or : (b : Bool) (o : Bool) → o ≡ true → cond b true o ≡ true
open_or true o e = refl
open_or false o e = e

pub added-plan : (p : Listing) (q : List ℕ) → IsPlan p → is_path q ≡ true → has_parent_in (has p.rows) q ≡ true
    → length p.rows < 4096 → IsStrictlySortedBy (slice_cmp nat_cmp) (paths_of (with_row (open_row q) p.rows))
    → IsPlan (record { root = p.root; rows = with_row (open_row q) p.rows })
added-plan p q h path parent few order =
    let more : AllByRecursion (IsClass (with_row (open_row q) p.rows)) p.rows =
    recursion_from_All _ p.rows (All-weaker _ _ (class-more (open_row q) p.rows) p.rows h.classes) in
    let here : IsClass (with_row (open_row q) p.rows) (open_row q) =
    record {
      path = path;
      parent =
          passes-more (has p.rows) (has (with_row (open_row q) p.rows)) (has-more (open_row q) p.rows) (ancestors q)
          parent;
      range = tt;
    } in
    record {
      root = h.root;
      classes = All-from_recursion _ (with_row (open_row q) p.rows) (all-put (IsClass (with_row (open_row q) p.rows)) (open_row q) p.rows here more);
      unfiled_open = open-put unfiled (open_row q) p.rows ∙ open_or (bytes_eq unfiled q) (open_at p.rows unfiled) h.unfiled_open;
      few = omega (arith, length-put (open_row q) p.rows);
      in_order = order;
    }

first-class : IsClass first_plan.rows (open_row unfiled)
unfolding is_path
first-class = record { path = refl; parent = refl; range = tt }

pub first-plan : IsPlan first_plan
unfolding IsStrictlySortedBy
first-plan = record {
  root = tt;
  classes = All-from_recursion (IsClass first_plan.rows) first_plan.rows (first-class, tt);
  unfiled_open = refl;
  few = omega arith;
  in_order = (tt, tt);
}
