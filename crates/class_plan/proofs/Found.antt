-- A plan's map beside the classes that it shows.
use Rattle.std.proofs.Common.{◌≡◌, ℕ, Bool, true, false, cond, List, [], ◌∷◌, Option, Some, option_map, Vec, Global}
use Rattle.std.proofs.Common.{Ordering, Less, Equal, Greater, nat_cmp, is_some, refl, ap, ◌∙◌}
use Rattle.std.proofs.lemmas.Map.Text.{is_eq-slice_cmp}
use Rattle.std.specs.Str.{bytes_eq}
use Rattle.std.specs.Cmp.Lexicographic.{slice_cmp}
use Rattle.std.specs.Map.{lookup}
use Rattle.std.specs.BTreeMap.{is_at, insert_entry}
use Rattle.std.specs.Ordering.{match_ordering}
use Rattle.class_plan.specs.declared.plans.Class.{Class}
use Rattle.class_plan.specs.declared.schedules.Schedule.{Schedule}
use Rattle.class_plan.specs.Plans.{Row, row_at, has, with_row}
use Rattle.class_plan.specs.Fields.{MapEntry, row, rows}

abbrev pub row_with : List ℕ → Bool → Option Schedule → Row
row_with p o s = record { path = p; is_open = o; schedule = s }

found_or : {A : Type 0} (f : Class → A) (g : Row → A) (b : Bool) (e : MapEntry) (rest : Option Class) (d : Option Row)
    → f e.1 ≡ g (row e) → option_map f rest ≡ option_map g d
    → option_map f (cond b (Some e.1) rest) ≡ option_map g (cond b (Some (row e)) d)
found_or f g true e rest d same ih = ap (λ x. Some x) same
found_or f g false e rest d same ih = ih

pub found-lookup : {A : Type 0} (f : Class → A) (g : Row → A) → ((e : MapEntry) → f e.1 ≡ g (row e))
    → (q : List ℕ) (es : List MapEntry)
    → option_map f (lookup (is_at (λ (k : Vec ℕ Global). slice_cmp nat_cmp q k.items)) es)
    ≡ option_map g (row_at q (rows es))
found-lookup f g same q [] = refl
found-lookup f g same q (e ∷ es) = rw (is_eq-slice_cmp q e.0.items) (found_or f g (bytes_eq q e.0.items) e _ _ (same e) (found-lookup f g same q es))

match_rows : (o : Ordering) (a b c : List MapEntry) → rows (match_ordering o a b c) ≡ match_ordering o (rows a) (rows b) (rows c)
match_rows Less a b c = refl
match_rows Equal a b c = refl
match_rows Greater a b c = refl

-- what an insert into the map shows
pub rows-insert : (es : List MapEntry) (k : Vec ℕ Global) (v : Class)
    → rows (insert_entry (λ (x y : Vec ℕ Global). slice_cmp nat_cmp x.items y.items) es k v)
    ≡ with_row (row (k, v)) (rows es)
rows-insert [] k v = refl
rows-insert (e ∷ es) k v = match_rows (slice_cmp nat_cmp k.items e.0.items) _ _ _ ∙ rw (rows-insert es k v)

is_or : (b : Bool) (v : Class) (r : Row) (rest : Option Class) (d : Option Row) → is_some rest ≡ is_some d
    → is_some (cond b (Some v) rest) ≡ is_some (cond b (Some r) d)
is_or true v r rest d ih = refl
is_or false v r rest d ih = ih

pub found-is : (q : List ℕ) (es : List MapEntry) → is_some (lookup (is_at (λ (k : Vec ℕ Global). slice_cmp nat_cmp q k.items)) es) ≡ has (rows es) q
found-is q [] = refl
found-is q (e ∷ es) = rw (is_eq-slice_cmp q e.0.items) (is_or (bytes_eq q e.0.items) e.1 (row e) _ _ (found-is q es))

pub row-same : (p q : List ℕ) (o : Bool) (s t : Option Schedule) → p ≡ q → s ≡ t → row_with p o s ≡ row_with q o t
row-same p q o s t a b = rw (a, b)
