-- The schedules that a plan answers are in range.
use Rattle.std.proofs.Common.{◌≡◌, ℕ, Bool, true, false, cond, List, [], ◌∷◌, Option, Some, None, option_map, option_and_then, unwrap_or}
use Rattle.std.proofs.lemmas.List.Elements.{recursion_from_All}
use Rattle.std.specs.Str.{bytes_eq}
use Rattle.std.specs.List.{AllByRecursion}
use Rattle.class_paths.specs.Path.{ancestors}
use Rattle.class_plan.specs.declared.schedules.Schedule.{Schedule}
use Rattle.class_plan.specs.Schedules.{IsInRange, IsInRangeIfAny}
use Rattle.class_plan.specs.Plans.{Row, Listing, row_at, has, own_at, first_own, schedule_at, IsClass, IsPlan}

own_head : (b : Bool) (x : Row) (o : Option Row) → IsInRangeIfAny x.schedule
    → IsInRangeIfAny (option_and_then (λ r. r.schedule) o)
    → IsInRangeIfAny (option_and_then (λ r. r.schedule) (cond b (Some x) o))
own_head true x o h k = h
own_head false x o h k = k

own_of_rows : (R : List Row) (q : List ℕ) (rs : List Row) → AllByRecursion (IsClass R) rs → IsInRangeIfAny (own_at rs q)
own_of_rows R q [] h = tt
own_of_rows R q (x ∷ xs) h = own_head (bytes_eq q x.path) x (row_at q xs) h.0.range (own_of_rows R q xs h.1)

pub own-range : (p : Listing) → IsPlan p → (q : List ℕ) → IsInRangeIfAny (own_at p.rows q)
own-range p h q = own_of_rows p.rows q p.rows (recursion_from_All (IsClass p.rows) p.rows h.classes)

or_else : (o : Option Schedule) (s : Schedule) → IsInRangeIfAny o → IsInRange s → IsInRange (unwrap_or o s)
or_else None s h k = k
or_else (Some t) s h k = h

pub first-range : (p : Listing) → IsPlan p → (qs : List (List ℕ)) → IsInRange (first_own p qs)
first-range p h [] = h.root
first-range p h (q ∷ qs) = or_else (own_at p.rows q) (first_own p qs) (own-range p h q) (first-range p h qs)

pub own-found : (o : Option Row) (s : Option Schedule) → Some s ≡ option_map (λ r. r.schedule) o → s ≡ option_and_then (λ r. r.schedule) o
own-found None s h = absurd (cc)
own-found (Some r) s h = cc

range_if : (b : Bool) (s : Schedule) → IsInRange s → IsInRangeIfAny (cond b (Some s) None)
range_if true s h = h
range_if false s h = tt

pub schedule-in_range : (p : Listing) → IsPlan p → (q : List ℕ) → IsInRangeIfAny (schedule_at p q)
schedule-in_range p h q = range_if (has p.rows q) (first_own p (q ∷ ancestors q)) (first-range p h (q ∷ ancestors q))
