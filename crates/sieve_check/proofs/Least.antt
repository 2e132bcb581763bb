-- The least of numbers.
use Rattle.std.proofs.Common.{◌≡◌, ℕ, ◌≤◌, min, true, false, List, [], ◌∷◌, ◌++◌, Option, Some, None, refl, ap, ◌∙◌, sym, arith}
use Rattle.sieve_check.specs.Rules.{Rule, breaches, lesser, least}
use Rattle.sieve_check.specs.Walk.{first_breach}

pub lesser_none : (a : Option ℕ) → lesser a None ≡ a
lesser_none None = refl
lesser_none (Some m) = refl

min_assoc : (a b c : ℕ) → min (min a b) c ≡ min a (min b c)
min_assoc a b c = omega arith

pub lesser_assoc : (a b c : Option ℕ) → lesser (lesser a b) c ≡ lesser a (lesser b c)
lesser_assoc None b c = refl
lesser_assoc (Some m) None c = refl
lesser_assoc (Some m) (Some n) None = refl
lesser_assoc (Some m) (Some n) (Some k) = ap (λ (x : ℕ). Some x) (min_assoc m n k)

pub least_append : (xs ys : List ℕ) → least (xs ++ ys) ≡ lesser (least xs) (least ys)
least_append [] ys = refl
least_append (x ∷ xs) ys = ap (λ (o : Option ℕ). lesser (Some x) o) (least_append xs ys) ∙ sym (lesser_assoc (Some x) (least xs) (least ys))

-- the numbers of the rules go up, from this one
abbrev Ascends : ℕ → List Rule → Type 0
Ascends low [] = Unit {0}
Ascends low (r ∷ rs) = (low ≤ r.1) × Ascends r.1 rs

from_lower : (m n : ℕ) (rs : List Rule) → m ≤ n → Ascends n rs → Ascends m rs
from_lower m n [] h a = tt
from_lower m n (r ∷ rs) h a = (omega (arith, h, a.0), a.1)

lesser_above : (n : ℕ) (rs : List Rule) → Ascends n rs → lesser (Some n) (least (breaches rs)) ≡ Some n
lesser_above n [] a = refl
lesser_above n ((true, m) ∷ rs) a = ap (λ (o : Option ℕ). lesser (Some n) o) (lesser_above m rs a.1) ∙ ap (λ (x : ℕ). Some x) (at_most n m a.0)
  where
    at_most : (n m : ℕ) → n ≤ m → min n m ≡ n
    at_most n m h = omega arith
lesser_above n ((false, m) ∷ rs) a = lesser_above n rs (from_lower n m rs a.0 a.1)

pub least_is_first : (low : ℕ) (rs : List Rule) → Ascends low rs → least (breaches rs) ≡ first_breach rs
least_is_first low [] a = refl
least_is_first low ((true, m) ∷ rs) a = lesser_above m rs a.1
least_is_first low ((false, m) ∷ rs) a = least_is_first m rs a.1
