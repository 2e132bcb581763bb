-- Adding a class.
use Rattle.std.proofs.Common.{◌≡◌, ℕ, ◌<◌, nat_le, Bool, true, false, List, length, None, Ok, ap, sym, subst, arith}
use Rattle.std.proofs.lemmas.Bool.Decides.{nat_tests}
use Rattle.std.proofs.lemmas.Bool.{not-false}
use Rattle.class_paths.specs.Path.{is_path, has_parent_in}
use Rattle.class_plan.specs.declared.faults.PlanFault.{PlanFault}
use Rattle.class_plan.specs.declared.faults.PlanFault.TheVariants.{BadPath, ParentMissing, TooManyClasses}
use Rattle.class_plan.specs.Plans.{Listing, has}
use Rattle.class_plan.specs.Faults.{first_fault, HoldsNone, verdict, answer}
use Rattle.class_plan.specs.Changes.{speaks_against}
use Rattle.class_plan.proofs.Judged.{Says, first-says}

below_full : (n : ℕ) → nat_le 4096 n ≡ false → n < 4096
below_full n h = grind (arith, nat_tests)

-- no first fault: no fault holds
pub none-holds : (h : PlanFault → Bool) → None ≡ first_fault h → HoldsNone h
none-holds h e = subst (Says h) (sym e) (first-says h)

pub judged-ok : {A : Type 0} (h : PlanFault → Bool) (a : A) → None ≡ first_fault h → verdict h a ≡ Ok a
judged-ok h a e = ap (λ o. answer o a) (sym e)

pub free-path : (p : Listing) (q : List ℕ) → None ≡ first_fault (speaks_against p q) → is_path q ≡ true
free-path p q e = not-false (is_path q) (none-holds (speaks_against p q) e BadPath (omega arith))

pub free-parent : (p : Listing) (q : List ℕ) → None ≡ first_fault (speaks_against p q) → has_parent_in (has p.rows) q ≡ true
free-parent p q e = not-false (has_parent_in (has p.rows) q) (none-holds (speaks_against p q) e ParentMissing (omega arith))

pub free-count : (p : Listing) (q : List ℕ) → None ≡ first_fault (speaks_against p q) → length p.rows < 4096
free-count p q e = below_full (length p.rows) (none-holds (speaks_against p q) e TooManyClasses (omega arith))
