-- Items that fit a text, and the pieces of a pattern.
use Rattle.std.proofs.Common.{◌≡◌, ℕ, zero, suc, ◌+◌, ◌-◌, ◌≤◌, ◌<◌, Bool, true, false, cond, eqb, ◌||◌, List, [], ◌∷◌, ◌++◌, length, take}
use Rattle.std.proofs.Common.{drop, map, get_or, set}
use Rattle.std.proofs.Common.{Option, Some, None, refl, sym, ap, subst, ◌∙◌, IsTrue, ◌↔◌, ⊎_elim, arith}
use Rattle.std.specs.Borrow.{Bor}
use Rattle.std.proofs.lemmas.List.{take-append-drop, length-take-le, length-drop, length-append, length-map, drop-drop, drop_all, drop-map}
use Rattle.std.proofs.lemmas.List.{drop_more, take-take, take_more, take_more_set, map_push, take_at, drop_at, take_rest}
use Rattle.std.proofs.lemmas.List.Prefix.{at_from_reads, at_reads}
use Rattle.std.proofs.lemmas.Bool.{cases_lt}
use Rattle.std.proofs.lemmas.Bool.Decides.{same_from_decides}
use Rattle.memchr.specs.Find.{IsFirst, Nowhere, OccursAt, FindsNeedle, is_byte3}
use Rattle.memchr.proofs.lemmas.FindLemmas.{IsFirst-agree}
use Rattle.sieve_meaning.specs.declared.matching.Comparator.{Comparator}
use Rattle.sieve_meaning.specs.declared.matching.Item.{Item}
use Rattle.sieve_meaning.specs.declared.matching.Item.TheVariants.{Octet, One, Any}
use Rattle.sieve_meaning.specs.Matching.{fold_octet, fold, items_from, items_of, covers, Matches}
use Rattle.sieve_meaning.proofs.MatchingLemmas.{covers_decided}
use Rattle.sieve_match.specs.declared.pieces.Piece.{Piece}
use Rattle.sieve_match.specs.Pieces.{IsStarless, FitsItem, FitsFront, FitsAt, FindsPiece, IsPiece}

-- ITEMS THAT FIT

-- items take an octet each
pub fits-length : (c : Comparator) (is : List Item) (t : List ℕ) → FitsFront c is t → length is ≤ length t
fits-length c [] t f = omega arith
fits-length c (i ∷ is) [] f = absurd f
fits-length c (i ∷ is) (b ∷ bs) f = omega (arith, fits-length c is bs f.1)

-- items before others: they fit, and the others cover the rest
split_to : (c : Comparator) (p tail : List Item) (t : List ℕ) → IsStarless p → Matches c (p ++ tail) t
    → FitsFront c p t × Matches c tail (drop (length p) t)
split_to c [] tail t s m = (tt, m)
split_to c (Octet o ∷ is) tail [] s m = absurd m
split_to c (Octet o ∷ is) tail (b ∷ bs) s m = let r = split_to c is tail bs s m.1 in ((m.0, r.0), r.1)
split_to c (One ∷ is) tail [] s m = absurd m
split_to c (One ∷ is) tail (b ∷ bs) s m = let r = split_to c is tail bs s m in ((tt, r.0), r.1)
split_to c (Any ∷ is) tail t s m = absurd s

split_from : (c : Comparator) (p tail : List Item) (t : List ℕ) → FitsFront c p t → Matches c tail (drop (length p) t)
    → Matches c (p ++ tail) t
split_from c [] tail t f m = m
split_from c (i ∷ is) tail [] f m = absurd f
split_from c (Octet o ∷ is) tail (b ∷ bs) f m = (f.0, split_from c is tail bs f.1 m)
split_from c (One ∷ is) tail (b ∷ bs) f m = split_from c is tail bs f.1 m
split_from c (Any ∷ is) tail (b ∷ bs) f m = absurd f.0

module _ (c : Comparator) (all : List Item) (n : ℕ) (within : n ≤ length all) where
  whole : take n all ++ drop n all ≡ all
  whole = take-append-drop n all

  long : length (take n all) ≡ n
  long = length-take-le n all within

  pub front_to : (t : List ℕ) → IsStarless (take n all) → Matches c all t → FitsFront c (take n all) t × Matches c (drop n all) (drop n t)
  front_to t s m =
      let r = split_to c (take n all) (drop n all) t s (subst (λ (is : List Item). Matches c is t) (sym whole) m) in
      (r.0, subst (λ (k : ℕ). Matches c (drop n all) (drop k t)) long r.1)

  pub front_from : (t : List ℕ) → FitsFront c (take n all) t → Matches c (drop n all) (drop n t) → Matches c all t
  front_from t f m =
      subst (λ (is : List Item). Matches c is t) whole
      (split_from c (take n all) (drop n all) t f (subst (λ (k : ℕ). Matches c (drop n all) (drop k t)) (sym long) m))

  pub front_fits : (t : List ℕ) → FitsFront c (take n all) t → n ≤ length t
  front_fits t f = omega (arith, fits-length c (take n all) t f, long)

-- no items cover the empty text alone
pub none_to : (c : Comparator) (t : List ℕ) → Matches c [] t → length t ≡ 0
none_to c [] m = refl
none_to c (b ∷ bs) m = absurd m

pub none_from : (c : Comparator) (t : List ℕ) → length t ≡ 0 → Matches c [] t
none_from c [] e = tt
none_from c (b ∷ bs) e = absurd (omega (arith, e))

-- A PATTERN'S FIRST PIECE

pub ends_last : (pattern : List ℕ) (p : Piece) → IsPiece pattern p → p.after ≡ None → drop p.count (items_of pattern) ≡ []
ends_last pattern p h e = rw e at h.ends

pub ends_star : (pattern : List ℕ) (p : Piece) (after : Bor (List ℕ)) → IsPiece pattern p → p.after ≡ Some after
    → drop p.count (items_of pattern) ≡ Any ∷ items_of after.now
ends_star pattern p after h e = rw e at h.ends

module _ (c : Comparator) (all : List Item) (n : ℕ) (within : n ≤ length all) (t : List ℕ) where
  -- it is the last one too: it takes the whole text
  pub whole_to : IsStarless (take n all) → drop n all ≡ [] → Matches c all t → length t ≡ n
  whole_to s ends m =
      let r = front_to c all n within t s m in
      let nothing = none_to c (drop n t) (subst (λ (is : List Item). Matches c is (drop n t)) ends r.1) in
      omega (arith, nothing, length-drop n t, front_fits c all n within t r.0)

  pub whole_from : drop n all ≡ [] → FitsFront c (take n all) t → length t ≡ n → Matches c all t
  whole_from ends f e =
      front_from c all n within t f (subst (λ (is : List Item). Matches c is (drop n t)) (sym ends)
      (none_from c (drop n t) (omega (arith, length-drop n t, e))))

  -- a `*` comes after it, and `part` is the text after it
  module _ (next : List Item) (ends : drop n all ≡ Any ∷ next) (part : List ℕ) (e : part ≡ drop n t) where
    pub star_to : IsStarless (take n all) → Matches c all t → Matches c (Any ∷ next) part
    star_to s m =
        let r = front_to c all n within t s m in
        subst (λ (xs : List ℕ). Matches c (Any ∷ next) xs) (sym e) (subst (λ (is : List Item). Matches c is (drop n t)) ends r.1)

    pub star_from : FitsFront c (take n all) t → Matches c (Any ∷ next) part → Matches c all t
    star_from f m =
        front_from c all n within t f (subst (λ (is : List Item). Matches c is (drop n t)) (sym ends)
        (subst (λ (xs : List ℕ). Matches c (Any ∷ next) xs) e m))

-- a place past the end is as the end
pub fits_inside : (c : Comparator) (is : List Item) (t : List ℕ) (k : ℕ) → length t < k → FitsAt c is t k → FitsAt c is t (length t)
fits_inside c is t k past f =
    subst (λ (xs : List ℕ). FitsFront c is xs) (drop_all k t (omega arith) ∙ sym (drop_all (length t) t (omega arith))) f

-- a search for a piece says it of all places
pub fits_nowhere : (c : Comparator) (is : List Item) (t : List ℕ) → Nowhere (FitsAt c is t) 0 (length t + 1) → (k : ℕ) → FitsAt c is t k → ⊥
fits_nowhere c is t h k f = ⊎_elim
    (λ inside. h k (omega arith) inside f)
    (λ past. h (length t) (omega arith) (omega arith) (fits_inside c is t k (omega arith) f))
    (cases_lt k (length t + 1))

-- THE PIECE AFTER A STAR

module _ (c : Comparator) (all : List Item) (n : ℕ) (within : n ≤ length all) (s : IsStarless (take n all)) (t : List ℕ) where
  -- if the piece fits nowhere, the pattern does not cover the text
  pub piece_nowhere : Nowhere (FitsAt c (take n all) t) 0 (length t + 1) → Matches c (Any ∷ all) t → ⊥
  piece_nowhere h m = fits_nowhere c (take n all) t h m.0 (front_to c all n within (drop m.0 t) s m.1).0

  module _ (k : ℕ) (first : IsFirst (FitsAt c (take n all) t) 0 (length t + 1) (Some k)) where
    -- the first place that it fits is as good as any other
    pub piece_to : (next : List Item) → drop n all ≡ Any ∷ next → Matches c (Any ∷ all) t → Matches c (Any ∷ next) (drop (k + n) t)
    piece_to next ends m =
        let r = front_to c all n within (drop m.0 t) s m.1 in
        let rest : Matches c (Any ∷ next) (drop n (drop m.0 t)) = subst (λ (is : List Item). Matches c is (drop n (drop m.0 t))) ends r.1 in
        let low : k ≤ m.0 = ⊎_elim
        (λ early. absurd (first.0.before m.0 (omega arith) early r.0))
        (λ late. late)
        (cases_lt m.0 k) in
        let place : drop rest.0 (drop n (drop m.0 t)) ≡ drop (m.0 - k + rest.0) (drop (k + n) t) =
        drop-drop rest.0 n (drop m.0 t) ∙ drop-drop (n + rest.0) m.0 t
        ∙ ap (λ (q : ℕ). drop q t) (omega arith) ∙ sym (drop-drop (m.0 - k + rest.0) (k + n) t) in
        (m.0 - k + rest.0, subst (λ (xs : List ℕ). Matches c next xs) place rest.1)

    pub piece_from : (next : List Item) → drop n all ≡ Any ∷ next → Matches c (Any ∷ next) (drop (k + n) t) → Matches c (Any ∷ all) t
    piece_from next ends m =
        let here : Matches c (Any ∷ next) (drop n (drop k t)) =
        subst (λ (xs : List ℕ). Matches c (Any ∷ next) xs) (sym (drop-drop n k t)) m in (
          k,
          front_from c all n within (drop k t) first.1
              (subst (λ (is : List Item). Matches c is (drop n (drop k t))) (sym ends) here),
        )

    pub piece_within : k + n ≤ length t
    piece_within = omega (arith, front_fits c all n within (drop k t) first.1, length-drop k t, first.0.high)

  -- the last piece fits the end of the text
  pub last_to : drop n all ≡ [] → Matches c (Any ∷ all) t → (n ≤ length t) × FitsFront c (take n all) (drop (length t - n) t)
  last_to ends m =
      let r = front_to c all n within (drop m.0 t) s m.1 in
      let nothing : length (drop n (drop m.0 t)) ≡ 0 =
      none_to c (drop n (drop m.0 t)) (subst (λ (is : List Item). Matches c is (drop n (drop m.0 t))) ends r.1) in
      let fits : n ≤ length (drop m.0 t) = front_fits c all n within (drop m.0 t) r.0 in (
        omega (arith, fits, length-drop m.0 t),
        ⊎_elim
            (λ inside. subst (λ (k : ℕ). FitsAt c (take n all) t k)
            (omega (arith, fits, nothing, length-drop m.0 t, length-drop n (drop m.0 t))) r.0)
            (λ past. subst (λ (k : ℕ). FitsAt c (take n all) t k)
            (omega (arith, fits, length-drop m.0 t)) (fits_inside c (take n all) t m.0 (omega arith) r.0))
            (cases_lt m.0 (length t + 1)),
      )

  pub last_from : drop n all ≡ [] → n ≤ length t → FitsFront c (take n all) (drop (length t - n) t) → Matches c (Any ∷ all) t
  last_from ends fits f = (
    length t - n,
    front_from c all n within (drop (length t - n) t) f
        (subst (λ (is : List Item). Matches c is (drop n (drop (length t - n) t))) (sym ends)
        (none_from c (drop n (drop (length t - n) t)) (omega (arith, length-drop n (drop (length t - n) t), length-drop (length t - n) t)))),
  )

-- an octet that is no `*`, `?` or backslash is an item
plain_item : (b : ℕ) (bs : List ℕ) → (eqb b 42 || eqb b 63 || eqb b 92) ≡ false → items_of (b ∷ bs) ≡ Octet b ∷ items_of bs
unfolding items_from
plain_item b bs e = chosen (eqb b 42) (eqb b 63) (eqb b 92) e
  where
    chosen : (x y z : Bool) → (x || y || z) ≡ false
        → cond z (items_from true bs) (cond x Any (cond y One (Octet b)) ∷ items_of bs) ≡ Octet b ∷ items_of bs
    chosen true y z e = absurd cc
    chosen false true z e = absurd cc
    chosen false false true e = absurd cc
    chosen false false false e = refl

pub plain_items : (n : ℕ) (p : List ℕ) → n ≤ length p
    → ((k : ℕ) → k < n → (eqb (get_or p k 0) 42 || eqb (get_or p k 0) 63 || eqb (get_or p k 0) 92) ≡ false)
    → items_of p ≡ map Octet (take n p) ++ items_of (drop n p)
plain_items zero p within h = refl
plain_items (suc n) [] within h = absurd (omega arith)
plain_items (suc n) (b ∷ bs) within h =
    plain_item b bs (h 0 (omega arith)) ∙ ap (λ (is : List Item). Octet b ∷ is)
    (plain_items n bs (omega arith) (λ k l. h (suc k) (omega arith)))

pub starless_octets : (key : List ℕ) → IsStarless (map Octet key)
starless_octets [] = tt
starless_octets (o ∷ os) = starless_octets os

no_items : items_of [] ≡ []
unfolding items_from
no_items = refl

star_item : (after : List ℕ) → items_of (42 ∷ after) ≡ Any ∷ items_of after
unfolding items_from
star_item after = refl

-- the plain piece of n octets at the front of a pattern
module _ (p : List ℕ) (n : ℕ) (inside : n ≤ length p) (plain : (k : ℕ) → k < n → is_byte3 42 63 92 (get_or p k 0) ≡ false) where
  size : length (map Octet (take n p)) ≡ n
  size = length-map (take n p) Octet ∙ length-take-le n p inside

  parts : items_of p ≡ map Octet (take n p) ++ items_of (drop n p)
  parts = plain_items n p inside plain

  pub plain_take : take n (items_of p) ≡ map Octet (take n p)
  plain_take = ap (λ (is : List Item). take n is) parts ∙ take_at (map Octet (take n p)) (items_of (drop n p)) n size

  plain_drop : drop n (items_of p) ≡ items_of (drop n p)
  plain_drop = ap (λ (is : List Item). drop n is) parts ∙ drop_at (map Octet (take n p)) (items_of (drop n p)) n size

  pub plain_within : n ≤ length (items_of p)
  plain_within = omega (arith, size, ap (λ (is : List Item). length is) parts, length-append (map Octet (take n p)) (items_of (drop n p)))

  pub plain_starless : IsStarless (take n (items_of p))
  plain_starless = subst IsStarless (sym plain_take) (starless_octets (take n p))

  pub plain_last : drop n p ≡ [] → drop n (items_of p) ≡ []
  plain_last e = plain_drop ∙ ap items_of e ∙ no_items

  pub plain_star : (b : ℕ) (after : List ℕ) → drop n p ≡ b ∷ after → b ≡ 42 → drop n (items_of p) ≡ Any ∷ items_of after
  plain_star b after e s = plain_drop ∙ ap items_of (e ∙ ap (λ (x : ℕ). x ∷ after) s) ∙ star_item after

-- ITEM BY ITEM

take_first : (n : ℕ) (x : Item) (is : List Item) → 0 < n → take n (x ∷ is) ≡ x ∷ take (n - 1) is
take_first zero x is l = absurd (omega arith)
take_first (suc n) x is l = ap (λ (k : ℕ). x ∷ take k is) (omega arith)

-- the first item and the first octet
module _ (c : Comparator) (n : ℕ) (some : 0 < n) (all after : List Item) (x : Item) (e : all ≡ x ∷ after) (t bs : List ℕ) (b : ℕ)
    (f : t ≡ b ∷ bs) where
  pub first_to : FitsFront c (take n all) t → FitsItem c x b × FitsFront c (take (n - 1) after) bs
  first_to h =
      let h₁ : FitsFront c (take n (x ∷ after)) (b ∷ bs) = rw (e, f) at h in
      subst (λ (is : List Item). FitsFront c is (b ∷ bs)) (take_first n x after some) h₁

  pub first_from : FitsItem c x b → FitsFront c (take (n - 1) after) bs → FitsFront c (take n all) t
  first_from i h =
      rw (e, f) (subst (λ (is : List Item). FitsFront c is (b ∷ bs)) (sym (take_first n x after some)) (i, h))

-- no octet is left for an item
pub first_none : (c : Comparator) (n : ℕ) (all after : List Item) (x : Item) (t : List ℕ) → 0 < n → all ≡ x ∷ after
    → length t ≡ 0 → FitsFront c (take n all) t → ⊥
first_none c n all after x t some e empty f =
    let size = fits-length c (take n all) t f in
    let is : take n all ≡ x ∷ take (n - 1) after = rw e (take_first n x after some) in
    omega (arith, size, ap length is)

-- no item is left
pub first_all : (c : Comparator) (n : ℕ) (all : List Item) (t : List ℕ) → all ≡ [] → FitsFront c (take n all) t
first_all c n all t e = subst (λ (is : List Item). FitsFront c (take n is) t) (sym e) (nothing n)
  where
    nothing : (n : ℕ) → FitsFront c (take n []) t
    nothing zero = tt
    nothing (suc n) = tt

fits_more_to : (c : Comparator) (p : List Item) (x : Item) (t : List ℕ) → FitsFront c (p ++ (x ∷ [])) t
    → FitsFront c p t × FitsFront c (x ∷ []) (drop (length p) t)
fits_more_to c [] x t f = (tt, f)
fits_more_to c (i ∷ is) x [] f = absurd f
fits_more_to c (i ∷ is) x (b ∷ bs) f = let r = fits_more_to c is x bs f.1 in ((f.0, r.0), r.1)

fits_more_from : (c : Comparator) (p : List Item) (x : Item) (t : List ℕ) → FitsFront c p t
    → FitsFront c (x ∷ []) (drop (length p) t) → FitsFront c (p ++ (x ∷ [])) t
fits_more_from c [] x t f g = g
fits_more_from c (i ∷ is) x [] f g = absurd f
fits_more_from c (i ∷ is) x (b ∷ bs) f g = (f.0, fits_more_from c is x bs f.1 g)

starless_more : (p : List Item) (x : Item) → IsStarless p → IsStarless (x ∷ []) → IsStarless (p ++ (x ∷ []))
starless_more [] x s h = h
starless_more (Octet o ∷ is) x s h = starless_more is x s h
starless_more (One ∷ is) x s h = starless_more is x s h
starless_more (Any ∷ is) x s h = absurd s

fits_fewer : (c : Comparator) (n : ℕ) (is : List Item) (t : List ℕ) → FitsFront c is t → FitsFront c (take n is) t
fits_fewer c zero is t f = tt
fits_fewer c (suc n) [] t f = tt
fits_fewer c (suc n) (i ∷ is) [] f = absurd f
fits_fewer c (suc n) (i ∷ is) (b ∷ bs) f = (f.0, fits_fewer c n is bs f.1)

pub fits_front_of : (c : Comparator) (m n : ℕ) (all : List Item) (t : List ℕ) → m ≤ n → FitsFront c (take n all) t → FitsFront c (take m all) t
fits_front_of c m n all t le f =
    subst (λ (is : List Item). FitsFront c is t) (take-take m n all le) (fits_fewer c m (take n all) t f)

-- one more item of a list
module _ (all : List Item) (n : ℕ) (x : Item) (is : List Item) (e : drop n all ≡ x ∷ is) where
  pub item_below : n < length all
  item_below = omega (arith, length-drop n all, ap length e)

  item_there : get_or all n x ∷ drop (n + 1) all ≡ x ∷ is
  item_there = sym (drop_more all n x item_below) ∙ e

  pub drop_next : drop (n + 1) all ≡ is
  drop_next = let s : get_or all n x ∷ drop (n + 1) all ≡ x ∷ is = item_there in cc

  pub take_next : take (n + 1) all ≡ take n all ++ (x ∷ [])
  take_next =
      let s : get_or all n x ∷ drop (n + 1) all ≡ x ∷ is = item_there in
      let head : get_or all n x ≡ x = cc in
      take_more all n x item_below ∙ ap (λ (y : Item). take n all ++ (y ∷ [])) head

  pub starless_next : IsStarless (take n all) → IsStarless (x ∷ []) → IsStarless (take (n + 1) all)
  starless_next s h = subst IsStarless (sym take_next) (starless_more (take n all) x s h)

  -- the octets of the first items, with one more
  pub copied_next : (key : List ℕ) (o : ℕ) → x ≡ Octet o → n < length key → take n all ≡ map Octet (take n key)
      → take (n + 1) all ≡ map Octet (take (n + 1) (set key n o))
  copied_next key o i l h =
      take_next ∙ ap (λ (p : List Item). p ++ (x ∷ [])) h ∙ ap (λ (y : Item). map Octet (take n key) ++ (y ∷ [])) i
      ∙ sym (ap (λ (k : List ℕ). map Octet k) (take_more_set key n o l) ∙ map_push Octet (take n key) o)

  module _ (c : Comparator) (t : List ℕ) (k : ℕ) (inside : k + n < length t) where
    octet_there : drop (length (take n all)) (drop k t) ≡ get_or t (k + n) 0 ∷ drop (k + n + 1) t
    octet_there =
        ap (λ (m : ℕ). drop m (drop k t)) (length-take-le n all (omega (arith, item_below)))
        ∙ drop-drop n k t ∙ drop_more t (k + n) 0 inside

    pub next_to : FitsAt c (take (n + 1) all) t k → FitsAt c (take n all) t k × FitsItem c x (get_or t (k + n) 0)
    next_to f =
        let r = fits_more_to c (take n all) x (drop k t) (subst (λ (p : List Item). FitsFront c p (drop k t)) take_next f) in
        let here : FitsFront c (x ∷ []) (get_or t (k + n) 0 ∷ drop (k + n + 1) t) =
        subst (λ (xs : List ℕ). FitsFront c (x ∷ []) xs) octet_there r.1 in
        (r.0, here.0)

    pub next_from : FitsAt c (take n all) t k → FitsItem c x (get_or t (k + n) 0) → FitsAt c (take (n + 1) all) t k
    next_from f i =
        subst (λ (p : List Item). FitsFront c p (drop k t)) (sym take_next)
        (fits_more_from c (take n all) x (drop k t) f
        (subst (λ (xs : List ℕ). FitsFront c (x ∷ []) xs) (sym octet_there) (i, tt)))

-- the text from a place on, as the code has it
pub piece_on : (c : Comparator) (next : List Item) (t : List ℕ) (k : ℕ) → Matches c (Any ∷ next) (drop k t)
    → Matches c (Any ∷ next) (take (length t - k) (drop k t))
piece_on c next t k m = subst (λ (xs : List ℕ). Matches c (Any ∷ next) xs) (sym (take_rest t k)) m

pub piece_back : (c : Comparator) (next : List Item) (t : List ℕ) (k : ℕ) → Matches c (Any ∷ next) (take (length t - k) (drop k t))
    → Matches c (Any ∷ next) (drop k t)
piece_back c next t k m = subst (λ (xs : List ℕ). Matches c (Any ∷ next) xs) (take_rest t k) m

pub fewer_items : (all next : List Item) (n : ℕ) → drop n all ≡ Any ∷ next → length next < length all
fewer_items all next n e = omega (arith, length-drop n all, ap (λ (is : List Item). length is) e)

-- PLAIN PIECES

octets_to : (c : Comparator) (key t : List ℕ) → FitsFront c (map Octet key) t → (after : List ℕ) × (fold c t ≡ fold c key ++ after)
octets_to c [] t f = (fold c t, refl)
octets_to c (o ∷ os) [] f = absurd f
octets_to c (o ∷ os) (b ∷ bs) f = let r = octets_to c os bs f.1 in (r.0, rw (f.0, r.1) refl)

octets_from : (c : Comparator) (key t after : List ℕ) → fold c t ≡ fold c key ++ after → FitsFront c (map Octet key) t
octets_from c [] t after e = tt
octets_from c (o ∷ os) [] after e = absurd cc
octets_from c (o ∷ os) (b ∷ bs) after e =
    let head : fold_octet c o ≡ fold_octet c b = cc in
    let tail : fold c bs ≡ fold c os ++ after = cc in
    (head, octets_from c os bs after tail)

occurs_to : (c : Comparator) (key t : List ℕ) (k : ℕ) → k < length t + 1 → OccursAt (fold c t) (fold c key) k → FitsAt c (map Octet key) t k
occurs_to c key t k l h =
    octets_from c key (drop k t) (drop (k + length (fold c key)) (fold c t))
    (sym (drop-map (fold_octet c) k t) ∙ at_from_reads 0 (fold c t) (fold c key) k h.fits h.reads)

occurs_from : (c : Comparator) (key t : List ℕ) (k : ℕ) → k < length t + 1 → FitsAt c (map Octet key) t k → OccursAt (fold c t) (fold c key) k
occurs_from c key t k l f =
    let r = octets_to c key (drop k t) f in
    let size = fits-length c (map Octet key) (drop k t) f in
    let octets : length (map Octet key) ≡ length key = length-map key Octet in
    record {
      fits = rw (length-map t (fold_octet c), length-map key (fold_octet c)) (omega (arith, size, octets, length-drop k t));
      reads = at_reads 0 (fold c t) (fold c key) k r.0 (drop-map (fold_octet c) k t ∙ r.1);
    }

-- where a key is found, the piece that it is fits
pub piece_of_key : (c : Comparator) (key pattern : List ℕ) (n : ℕ) (t : List ℕ) (r : Option ℕ)
    → take n (items_of pattern) ≡ map Octet key → FindsNeedle (fold c t) (fold c key) 0 r → FindsPiece c pattern n t r
piece_of_key c key pattern n t r e h =
    subst (λ (is : List Item). IsFirst (FitsAt c is t) 0 (length t + 1) r) (sym e)
    (IsFirst-agree (OccursAt (fold c t) (fold c key)) (FitsAt c (map Octet key) t) 0 (length t + 1)
    (occurs_to c key t) (occurs_from c key t) r (rw (length-map t (fold_octet c)) at h))

-- what an answer says of the test that computes it
pub covers_test : (c : Comparator) (items : List Item) (t : List ℕ) (r : Bool) → IsTrue r ↔ Matches c items t → r ≡ covers c items t
covers_test c items t r h = let d = covers_decided c items t in same_from_decides r (covers c items t) (h.0, h.1) (d.0, d.1)
