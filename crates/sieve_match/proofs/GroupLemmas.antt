-- Groups of places that a piece is laid on at once.
use Rattle.std.proofs.Common.{◌≡◌, ℕ, ◌+◌, ◌-◌, ◌≤◌, ◌<◌, Bool, true, false, eqb, ◌||◌, ◌&&◌, List, ◌∷◌, length, take, drop, get_or}
use Rattle.std.proofs.Common.{Option, Some, refl, sym, ap, subst, ◌∙◌, ◌↔◌, ⊎_elim, arith}
use Rattle.std.proofs.lemmas.List.{length-drop, drop-drop, take_rest, get_or-drop}
use Rattle.std.proofs.lemmas.Bool.{cases_lt, eqb-true, eq-eqb}
use Rattle.memchr.specs.Find.{IsFirst, Nowhere}
use Rattle.memchr.proofs.lemmas.FindLemmas.{IsFirst-agree}
use Rattle.sieve_meaning.specs.declared.matching.Comparator.{Comparator}
use Rattle.sieve_meaning.specs.declared.matching.Item.{Item}
use Rattle.sieve_meaning.specs.Matching.{fold_octet}
use Rattle.sieve_match.specs.Pieces.{FitsItem, FitsFront, FitsAt, AreCases}
use Rattle.sieve_match.proofs.PieceLemmas.{fits-length, next_to, next_from, fits_front_of}

-- a flag is set where the predicate holds of its place
abbrev pub HasFlags : (P : ℕ → Type 0) → (flags : List Bool) → Type 0
HasFlags P flags = (k : ℕ) → k < length flags → (get_or flags k false ≡ true) ↔ P k

both_true : (x y : Bool) → (x && y) ≡ true → (x ≡ true) × (y ≡ true)
both_true true true e = (refl, refl)
both_true true false e = absurd cc
both_true false y e = absurd cc

from_both : (x y : Bool) → x ≡ true → y ≡ true → (x && y) ≡ true
from_both true true e f = refl
from_both true false e f = absurd cc
from_both false y e f = absurd cc

not_true : (x : Bool) → x ≡ false → x ≡ true → ⊥
not_true x e f = let g : false ≡ true = sym e ∙ f in cc

-- what the flag of a place says after a comparison with an octet
pub kept_octet : (c : Comparator) (o first second b : ℕ) (old new : Bool) → AreCases c o first second
    → new ≡ (old && (eqb b first || eqb b second)) → (new ≡ true) ↔ ((old ≡ true) × (fold_octet c o ≡ fold_octet c b))
kept_octet c o first second b old new cases e =
    let f : new ≡ (old && eqb (fold_octet c o) (fold_octet c b)) = e ∙ ap (λ (r : Bool). old && r) (cases b) in (
      λ set. let r = both_true old (eqb (fold_octet c o) (fold_octet c b)) (sym f ∙ set) in (r.0, eqb-true _ _ r.1),
      λ r. f ∙ from_both old (eqb (fold_octet c o) (fold_octet c b)) r.0 (eq-eqb _ _ r.1),
    )

-- an octet of the text from place n on
pub read_on : (t : List ℕ) (n m : ℕ) (k : ℕ) → k < m → get_or (take (length t - n) (drop n t)) k 0 ≡ get_or t (k + n) 0
read_on t n m k l =
    ap (λ (xs : List ℕ). get_or xs k 0) (take_rest t n) ∙ get_or-drop n t k 0 ∙ ap (λ (q : ℕ). get_or t q 0) (omega arith)

-- before any item each place fits
pub flags_start : (c : Comparator) (all : List Item) (t : List ℕ) (flags : List Bool)
    → ((k : ℕ) → k < length flags → get_or flags k false ≡ true) → HasFlags (FitsAt c (take 0 all) t) flags
flags_start c all t flags h = λ k l. (λ set. tt, λ f. h k l)

-- one more item
module _ (c : Comparator) (all : List Item) (n : ℕ) (x : Item) (is : List Item) (e : drop n all ≡ x ∷ is) (t : List ℕ)
    (flags new : List Bool) (long : length new ≡ length flags) (within : length flags + n ≤ length t)
    (old : HasFlags (FitsAt c (take n all) t) flags) (octets : List ℕ)
    (read : (k : ℕ) → k < length flags → get_or octets k 0 ≡ get_or t (k + n) 0)
    (kept : (k : ℕ) → k < length flags → (get_or new k false ≡ true)
    ↔ ((get_or flags k false ≡ true) × FitsItem c x (get_or octets k 0))) where
  pub flags_next : HasFlags (FitsAt c (take (n + 1) all) t) new
  flags_next k l = let l₁ : k < length flags = omega (arith, l, long) in (
    λ set.
        let r = (kept k l₁).0 set in
        next_from all n x is e c t k (omega (arith, l₁, within)) ((old k l₁).0 r.0)
        (subst (λ (b : ℕ). FitsItem c x b) (read k l₁) r.1),
    λ f.
        let r = next_to all n x is e c t k (omega (arith, l₁, within)) f in
        (kept k l₁).1 ((old k l₁).1 r.0, subst (λ (b : ℕ). FitsItem c x b) (sym (read k l₁)) r.1),
  )

  -- where no flag is left, the items fit at no place of the group, nor do more of them
  pub flags_none : (m : ℕ) → n < m → ((k : ℕ) → k < length flags → get_or new k false ≡ false)
      → Nowhere (FitsAt c (take m all) t) 0 (length flags)
  flags_none m le clear k low high f =
      not_true (get_or new k false) (clear k high)
      ((flags_next k (omega (arith, high, long))).1 (fits_front_of c (n + 1) m all (drop k t) (omega arith) f))

-- the first flag that is left
pub flags_first : (P : ℕ → Type 0) (flags : List Bool) (r : Option ℕ) → HasFlags P flags
    → IsFirst (λ k. get_or flags k false ≡ true) 0 (length flags) r → IsFirst P 0 (length flags) r
flags_first P flags r h f = IsFirst-agree (λ k. get_or flags k false ≡ true) P 0 (length flags) (λ k l. (h k l).0) (λ k l. (h k l).1) r f

-- GROUP AFTER GROUP

module _ (c : Comparator) (is : List Item) (t : List ℕ) (at : ℕ) (passed : Nowhere (FitsAt c is t) 0 at) (part : List ℕ)
    (e : part ≡ drop at t) (m j : ℕ) (size : j ≡ m) where
  shifted : (k : ℕ) → at ≤ k → drop k t ≡ drop (k - at) part
  shifted k l =
      sym (ap (λ (xs : List ℕ). drop (k - at) xs) e ∙ drop-drop (k - at) at t ∙ ap (λ (q : ℕ). drop q t) (omega arith))

  before : (i : ℕ) → Nowhere (FitsAt c is part) 0 i → Nowhere (FitsAt c is t) 0 (at + i)
  before i h k low high f = ⊎_elim
      (λ early. passed k low early f)
      (λ late. h (k - at) (omega arith) (omega arith) (subst (λ (xs : List ℕ). FitsFront c is xs) (shifted k (omega arith)) f))
      (cases_lt k at)

  pub group_nowhere : Nowhere (FitsAt c is part) 0 j → Nowhere (FitsAt c is t) 0 (at + m)
  group_nowhere h = subst (λ (i : ℕ). Nowhere (FitsAt c is t) 0 (at + i)) size (before j h)

  pub group_found : (k : ℕ) → at + m ≤ length t + 1 → IsFirst (FitsAt c is part) 0 j (Some k)
      → IsFirst (FitsAt c is t) 0 (length t + 1) (Some (at + k))
  group_found k le h = (
    record { low = omega arith; high = omega (arith, h.0.high, size, le); before = before k h.0.before },
    subst (λ (xs : List ℕ). FitsFront c is xs) (ap (λ (xs : List ℕ). drop k xs) e ∙ drop-drop k at t) h.1,
  )

-- a text has no place for a piece that begins too near its end
pub ends_nowhere : (c : Comparator) (is : List Item) (t : List ℕ) (at : ℕ) → length t < at + length is
    → Nowhere (FitsAt c is t) 0 at → Nowhere (FitsAt c is t) 0 (length t + 1)
ends_nowhere c is t at past h k low high f = ⊎_elim
    (λ early. h k low early f)
    (λ late. omega (arith, fits-length c is (drop k t) f, length-drop k t))
    (cases_lt k at)
