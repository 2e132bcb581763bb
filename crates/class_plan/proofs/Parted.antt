-- Parts that are judged: whether `unfiled` is closed, and schedules in range.
use Rattle.std.proofs.Common.{◌≡◌, ◌≢◌, Bool, true, false, not, ◌&&◌, ◌||◌, if◌then◌else◌, List, []}
use Rattle.std.proofs.Common.{◌∷◌, map, Option, Some, None, option_map, Ok, Err, refl, ap, sym}
use Rattle.std.proofs.lemmas.List.Elements.{All-from_recursion}
use Rattle.std.proofs.lemmas.Bool.{or_parts}
use Rattle.std.specs.Str.{bytes_eq}
use Rattle.std.specs.List.{AllByRecursion, list_any}
use Rattle.class_plan.proofs.Periods.{low_of, high_of}
use Rattle.class_paths.specs.Path.{unfiled}
use Rattle.class_plan.specs.declared.faults.PlanFault.{PlanFault}
use Rattle.class_plan.specs.declared.faults.PlanFault.TheVariants.{NotToml, BadShape, BadPath, ParentMissing, PathTwice}
use Rattle.class_plan.specs.declared.faults.PlanFault.TheVariants.{BadSchedule, TooManyClasses, PathDropped, NoMemory}
use Rattle.class_plan.specs.declared.schedules.Schedule.{Schedule}
use Rattle.class_plan.specs.declared.schedules.Schedule.TheVariants.{Permanent, After}
use Rattle.class_plan.specs.declared.entries.Listed.{Listed}
use Rattle.class_plan.specs.Faults.{IsSmallest, HoldsNone}
use Rattle.class_plan.specs.Schedules.{most, IsInRange, IsInRangeIfAny}
use Rattle.class_plan.specs.Plans.{Listing}
use Rattle.class_plan.specs.Entries.{Contents, entry_view, stated_if, own_of, plan_of, IsListable, IsListableEntry}
use Rattle.class_plan.specs.Parts.{Part, in_range, if_in_range, part_entry, parts_contents, is_closed_unfiled, parts_faults, plan_of_parts}
use Rattle.class_plan.proofs.Judged.{judged-made, judged-smallest}

pub parts-closed : (f : Contents) → list_any is_closed_unfiled f.entries ≡ true → plan_of_parts f ≡ Err BadShape
parts-closed f e = rw e

pub parts-open : (f : Contents) → list_any is_closed_unfiled f.entries ≡ false → plan_of_parts f ≡ plan_of f
parts-open f e = rw e

pub parts-smallest : (f : Contents) (g : PlanFault) → plan_of_parts f ≡ Err g → IsSmallest (parts_faults f) g
parts-smallest f g e = judged-smallest (parts_faults f) _ g (sym e)

pub parts-made : (f : Contents) (p : Listing) → plan_of_parts f ≡ Ok p → HoldsNone (parts_faults f)
parts-made f p e = (judged-made (parts_faults f) _ p (sym e)).1

pub closed-shown : (xs : List Listed) → list_any (λ c. is_closed_unfiled (entry_view c)) xs ≡ list_any is_closed_unfiled (map entry_view xs)
closed-shown [] = refl
closed-shown (x ∷ xs) = ap (λ b. is_closed_unfiled (entry_view x) || b) (closed-shown xs)

pub in-range : (s : Schedule) → in_range s ≡ true → IsInRange s
in-range Permanent e = tt
in-range (After n u a y) e = (low_of n (most u) e, high_of n (most u) e)

ranged_if : (s : Schedule) (b : Bool) → b ≡ in_range s → IsInRangeIfAny (if b then Some s else None)
ranged_if s true e = in-range s (sym e)
ranged_if s false e = tt

own_if : (s : Schedule) (b : Bool) → b ≡ in_range s → IsInRangeIfAny (own_of (stated_if (Some (if b then Some s else None))))
own_if s true e = in-range s (sym e)
own_if s false e = tt

own_range : (o : Option Schedule) → IsInRangeIfAny (own_of (stated_if (option_map if_in_range o)))
own_range None = tt
own_range (Some s) = own_if s (in_range s) refl

open_of : (b o : Bool) → (b && not o) ≡ false → b ≡ true → o ≡ true
open_of b true e h = refl
open_of true false e h = absurd (let k : true ≡ false = e in (cc))
open_of false false e h = absurd (let k : false ≡ true = h in (cc))

entries_listable : (ps : List Part) → list_any is_closed_unfiled (map part_entry ps) ≡ false → AllByRecursion IsListableEntry (map part_entry ps)
entries_listable [] h = tt
entries_listable (p ∷ ps) h = (
  record { range = own_range p.2; unfiled_open = open_of (bytes_eq p.0.items unfiled) p.1 (or_parts _ _ h).0 },
  entries_listable ps (or_parts (is_closed_unfiled (part_entry p)) _ h).1,
)

-- the contents of parts are fit to be judged where `unfiled` is not closed
pub parts-listable : (root : Schedule) (ps : List Part) → list_any is_closed_unfiled (map part_entry ps) ≡ false → IsListable (parts_contents root ps)
parts-listable root ps h = record {
  root = ranged_if root (in_range root) refl;
  entries =
      All-from_recursion IsListableEntry (map part_entry ps) (entries_listable ps h);
}

-- a fault that cannot differ from `NoMemory` is `NoMemory`
pub is-memory : (f : PlanFault) → ¬ (f ≢ NoMemory) → f ≡ NoMemory
is-memory NotToml h = absurd (h (λ e. (cc)))
is-memory BadShape h = absurd (h (λ e. (cc)))
is-memory BadPath h = absurd (h (λ e. (cc)))
is-memory ParentMissing h = absurd (h (λ e. (cc)))
is-memory PathTwice h = absurd (h (λ e. (cc)))
is-memory BadSchedule h = absurd (h (λ e. (cc)))
is-memory TooManyClasses h = absurd (h (λ e. (cc)))
is-memory PathDropped h = absurd (h (λ e. (cc)))
is-memory NoMemory h = refl
