-- Lists that are sorted by an order without ties.
use Rattle.std.proofs.Common.{◌≡◌, zero, suc, Bool, true, false, cond, List, [], ◌∷◌, filter, refl, sym, ap, ◌∙◌, Ordering, Less}
use Rattle.std.proofs.Common.{Equal, Greater, is_lt, is_gt, is_eq, true≢false, arith, add-one, IsSorted}
use Rattle.std.proofs.lemmas.List.Sorted.{IsPermutation-sym, IsPermutation-trans}
use Rattle.std.specs.List.{AllByRecursion}
use Rattle.std.specs.Cmp.{IsTotalOrder}
use Rattle.std.specs.Ordering.{ordering_reverse}
use Rattle.sqlite_trees.specs.Tree.{IsAscending}
use Rattle.sqlite_keyed.specs.Lists.{sort_by, insert_sorted}
use Rattle.sqlite_keyed.proofs.ListLemmas.{all_weaker, ascending-filter, IsPermutation-filter}
use Rattle.sqlite_keyed.proofs.SortLemmas.{IsPermutation-sort_by, sorted_unique}

module _ {X : Type 0} (cmp : X → X → Ordering) (total : IsTotalOrder cmp) where
  all-insert : (P : X → Type 0) (new : X) (xs : List X) → P new → AllByRecursion P xs → AllByRecursion P (insert_sorted cmp new xs)
  all-insert P new [] h all = (h, tt)
  all-insert P new (x ∷ xs) h all =
      elim (is_gt (cmp new x)) as (λ b. AllByRecursion P (cond b (x ∷ insert_sorted cmp new xs) (new ∷ x ∷ xs))) [
        | true
            ↦ (all.0, all-insert P new xs h all.1)
        | false ↦ (h, all)
      ]

  pub all-sort : (P : X → Type 0) (xs : List X) → AllByRecursion P xs → AllByRecursion P (sort_by cmp xs)
  all-sort P [] all = tt
  all-sort P (x ∷ xs) all = all-insert P x _ all.0 (all-sort P xs all.1)

  abbrev pub Rises : List X → Type 0
  Rises = IsAscending (λ a b. cmp a b ≡ Less)

  abbrev pub IsUntied : List X → Type 0
  IsUntied = IsAscending (λ a b. is_eq (cmp a b) ≡ false)

  rises-insert : (new : X) (xs : List X) → AllByRecursion (λ y. is_eq (cmp new y) ≡ false) xs → Rises xs → Rises (insert_sorted cmp new xs)
  rises-insert new [] apart up = (tt, tt)
  rises-insert new (x ∷ xs) apart up = go (cmp new x) refl (rises-insert new xs apart.1 up.1)
    where
      go : (o : Ordering) → cmp new x ≡ o → Rises (insert_sorted cmp new xs) → Rises (cond (is_gt o) (x ∷ insert_sorted cmp new xs) (new ∷ x ∷ xs))
      go Less e more = ((e, all_weaker _ (λ y. cmp new y ≡ Less) (λ y. total.trans new x y e) xs up.0), up)
      go Equal e more = absurd (true≢false (sym (ap is_eq e) ∙ apart.0))
      go Greater e more = (all-insert _ new xs (total.antisymm x new ∙ ap ordering_reverse e) up.0, more)

  pub rises-sort : (xs : List X) → IsUntied xs → Rises (sort_by cmp xs)
  rises-sort [] apart = tt
  rises-sort (x ∷ xs) apart = rises-insert x _ (all-sort _ xs apart.0) (rises-sort xs apart.1)

  -- a list that rises is sorted
  sorted : (xs : List X) → Rises xs → IsSorted cmp xs
  sorted [] up k d low high = absurd (omega arith)
  sorted (x ∷ []) up k d low high = absurd (omega arith)
  sorted (x ∷ y ∷ xs) up zero d low high = ap is_lt (total.antisymm y x ∙ ap ordering_reverse up.0.0)
  sorted (x ∷ y ∷ xs) up (suc k) d low high = rw add-one (rw add-one at (sorted (y ∷ xs) up.1 k d (omega arith) (omega arith)))

  -- filtering before sorting or after it gives the same
  pub filter-sort_by : (u : X → Bool) (xs : List X) → IsUntied xs → filter u (sort_by cmp xs) ≡ sort_by cmp (filter u xs)
  filter-sort_by u xs apart =
      let back = IsPermutation-filter u xs (sort_by cmp xs) (IsPermutation-sym _ _ (IsPermutation-sort_by cmp total xs)) in
      sorted_unique cmp total (sort_by cmp (filter u xs)) (filter u (sort_by cmp xs)) (rises-sort (filter u xs) (ascending-filter _ u xs apart))
      (IsPermutation-trans _ _ _ (IsPermutation-sort_by cmp total (filter u xs)) back)
      (sorted (filter u (sort_by cmp xs)) (ascending-filter _ u (sort_by cmp xs) (rises-sort xs apart)))
