-- Changes of a plan.
use Rattle.std.specs.Prelude.{ℕ, nat_le, Bool, false, not, List, length, filter, Result}
use Rattle.std.specs.Str.{bytes_eq}
use Rattle.class_paths.specs.Path.{is_path, has_parent_in}
use Rattle.class_plan.specs.declared.faults.PlanFault.{PlanFault}
use Rattle.class_plan.specs.declared.faults.PlanFault.TheVariants.{BadPath, ParentMissing, PathTwice, TooManyClasses}
use Rattle.class_plan.specs.Faults.{verdict}
use Rattle.class_plan.specs.Plans.{Listing, has, with_row, open_row}

-- the faults of adding an open class at a path
abbrev pub speaks_against : Listing → List ℕ → PlanFault → Bool
speaks_against p q BadPath = not (is_path q)
speaks_against p q ParentMissing = not (has_parent_in (has p.rows) q)
speaks_against p q PathTwice = has p.rows q
speaks_against p q TooManyClasses = nat_le 4096 (length p.rows)
speaks_against p q _ = false

-- the plan with one more open class
abbrev pub with_class : Listing → List ℕ → Listing
with_class p q = record { root = p.root; rows = with_row (open_row q) p.rows }

-- the plan with one more open class, or the fault with the smallest number
abbrev pub addition : Listing → List ℕ → Result Listing PlanFault
addition p q = verdict (speaks_against p q) (with_class p q)

-- the plan without the class at a path
abbrev pub without_class : Listing → List ℕ → Listing
without_class p q = record { root = p.root; rows = filter (λ r. not (bytes_eq q r.path)) p.rows }
