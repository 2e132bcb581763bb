-- The schedule of a path is its own, or that of its nearest ancestor that has one, or the root's.
use Rattle.std.proofs.Common.{◌≡◌, ◌≢◌, ℕ, zero, suc, ◌≤◌, ◌==◌, true, false, inl, inr, List, take, length, get_or}
use Rattle.std.proofs.Common.{Option, Some, None, unwrap_or, refl, sym, subst, arith}
use Rattle.std.proofs.lemmas.Bool.{cases_Bool, cases_order}
use Rattle.std.proofs.lemmas.Bool.Decides.{nat_tests}
use Rattle.class_paths.specs.Path.{ancestors, ancestors_below}
use Rattle.class_plan.specs.declared.schedules.Schedule.{Schedule}
use Rattle.class_plan.specs.Plans.{Listing, own_at, first_own, HasNoneFrom, IsFromAbove}

is_slash : (c : ℕ) → (c == 47) ≡ true → c ≡ 47
is_slash c e = grind (arith, nat_tests)

no_slash : (c : ℕ) → (c == 47) ≡ false → c ≢ 47
no_slash c e = grind (arith, nat_tests)

-- one more place at which no ancestor has a schedule
none_more : (p : Listing) (q : List ℕ) (k : ℕ) → HasNoneFrom p q (suc k) → (get_or q k 0 ≡ 47 → own_at p.rows (take k q) ≡ None) → HasNoneFrom p q k
none_more p q k h here j low high slash = elim (cases_order k j) [
  | inl same ↦ subst (λ i. own_at p.rows (take i q) ≡ None) same (here (subst (λ i. get_or q i 0 ≡ 47) (sym same) slash))
  | inr (inl lt) ↦ h j (omega arith) high slash
  | inr (inr gt) ↦ absurd (omega arith)
]

at_slash : (p : Listing) (q : List ℕ) (k : ℕ) (o : Option Schedule) → o ≡ own_at p.rows (take k q) → suc k ≤ length q
    → get_or q k 0 ≡ 47 → HasNoneFrom p q (suc k)
    → (HasNoneFrom p q k → IsFromAbove p q (first_own p (ancestors_below q k)))
    → IsFromAbove p q (unwrap_or o (first_own p (ancestors_below q k)))
at_slash p q k None e fits slash h ih = ih (none_more p q k h (λ _. sym e))
at_slash p q k (Some s) e fits slash h ih = inl (record { place = k; within = omega arith; slash = slash; own = sym e; nearest = h })

below : (p : Listing) (q : List ℕ) (n : ℕ) → n ≤ length q → HasNoneFrom p q n → IsFromAbove p q (first_own p (ancestors_below q n))
below p q zero fits h = inr (h, refl)
below p q (suc k) fits h = elim (cases_Bool (get_or q k 0 == 47)) [
  | inl is ↦ rw is (at_slash p q k (own_at p.rows (take k q)) refl fits (is_slash (get_or q k 0) is) h (below p q k (omega arith)))
  | inr other ↦ rw other (below p q k (omega arith) (none_more p q k h (λ slash. absurd (no_slash (get_or q k 0) other slash))))
]

none_past : (p : Listing) (q : List ℕ) → HasNoneFrom p q (length q)
none_past p q j low high slash = absurd (omega arith)

-- the schedule that a path inherits
pub from-above : (p : Listing) (q : List ℕ) → IsFromAbove p q (first_own p (ancestors q))
from-above p q = below p q (length q) (omega arith) (none_past p q)
