-- Rows of one table beside rows of another, as a query of both pairs them.
use Rattle.std.proofs.Common.{◌≡◌, ◌≤◌, List, [], ◌∷◌, ◌++◌, map, filter, length, Bool, true, false, cond, ◌&&◌, refl, ap, ap₂, ◌∙◌, arith}
use Rattle.std.specs.Prelude.{flat_map}
use Rattle.std.specs.List.Sorted.{IsPermutation}
use Rattle.std.proofs.Math.Bool.{and-true, and-false}
use Rattle.std.proofs.lemmas.List.Elements.{filter-append}
use Rattle.std.proofs.lemmas.List.Sorted.{length_permutation}
use Rattle.sqlite.specs.Order.{Row}
use Rattle.sqlite.proofs.Callers.{one_permutation}
use Rattle.sqlite_keyed.specs.Lists.{pairs}
use Rattle.sqlite_keyed.proofs.ListLemmas.{filter-map, filter_same, filter_none, all_of}

abbrev pub beside : {A B : Type 0} → A → B → A × B
beside a b = (a, b)

module _ {A B : Type 0} (of : A → B → Bool) where
  -- each element of the one list with each of the other that is of it
  abbrev pub joined : List B → List A → List (A × B)
  joined bs = flat_map (λ a. map (beside a) (filter (of a) bs))

  filter_both : (b : Bool) (a : A) (bs : List B)
      → map (beside a) (filter (λ x. of a x && b) bs) ≡ cond b (map (beside a) (filter (of a) bs)) []
  filter_both true a bs = ap (map (beside a)) (filter_same (λ x. of a x && true) (of a) (λ x. and-true (of a x)) bs)
  filter_both false a bs = ap (map (beside a)) (filter_none _ bs (all_of _ (λ x. and-false (of a x)) bs))

  module _ (by : A → Bool) where
    abbrev pub is_asked : A × B → Bool
    is_asked p = of p.0 p.1 && by p.0

    -- of all pairs, those are selected whose first passes, each with those that are of it
    pub asked_is : (bs : List B) (firsts : List A) → filter is_asked (pairs firsts bs) ≡ joined bs (filter by firsts)
    asked_is bs [] = refl
    asked_is bs (a ∷ firsts) =
        filter-append is_asked (map (beside a) bs) (pairs firsts bs)
        ∙ ap₂ ◌++◌ (filter-map is_asked (beside a) bs ∙ filter_both (by a) a bs) (asked_is bs firsts)
        ∙ go (by a)
      where
        go : (b : Bool) → cond b (map (beside a) (filter (of a) bs)) []
            ++ joined bs (filter by firsts) ≡ joined bs (cond b (a ∷ filter by firsts) (filter by firsts))
        go true = refl
        go false = refl

-- ---- few of them

none_permuted : {X : Type 0} (ys : List X) → IsPermutation [] ys → ys ≡ []
none_permuted [] h = refl
none_permuted (y ∷ ys) h = absurd (omega (arith, length_permutation [] (y ∷ ys) h))

-- a list of at most one element has one order
pub few_permuted : (xs ys : List Row) → IsPermutation xs ys → length xs ≤ 1 → ys ≡ xs
few_permuted [] ys h few = none_permuted ys h
few_permuted (x ∷ []) ys h few = one_permutation x ys h
few_permuted (x ∷ z ∷ zs) ys h few = absurd (omega arith)

-- a test after another one
pub filter_twice : {X : Type 0} (p q : X → Bool) (xs : List X) → filter (λ x. p x && q x) xs ≡ filter q (filter p xs)
filter_twice p q [] = refl
filter_twice p q (x ∷ xs) = go (p x) (filter_twice p q xs)
  where
    go : (b : Bool) → filter (λ y. p y && q y) xs ≡ filter q (filter p xs)
        → cond (b && q x) (x ∷ filter (λ y. p y && q y) xs) (filter (λ y. p y && q y) xs) ≡ filter q (cond b (x ∷ filter p xs) (filter p xs))
    go true h = ap (λ l. cond (q x) (x ∷ l) l) h
    go false h = h
