-- The place of a path in a set of paths, as a binary search finds it, and that adding a path to a set gives a set.
use Rattle.std.proofs.Common.{◌≡◌, ℕ, zero, suc, ◌+◌, ◌<◌, ◌≤◌, List, [], ◌∷◌, length, get_or, refl, ap, ◌∙◌, arith}
use Rattle.std.specs.Cmp.Lexicographic.{slice_cmp}
use Rattle.std.specs.List.{AllByRecursion, HoldsAt, insert}
use Rattle.std.specs.List.Sorted.{IsStrictlySortedBy, IsNonDecreasingBy, IsPartitionPoint}
use Rattle.std.specs.Ordering.{nat_cmp, match_ordering, ordering_index, ordering_reverse, is_lt}
use Rattle.std.specs.declared.cmp.Ordering.{Ordering}
use Rattle.std.specs.declared.cmp.Ordering.TheVariants.{Less, Equal, Greater}
use Rattle.std.proofs.lemmas.Cmp.{nat_list_cmp_total, alike_right}
use Rattle.std.proofs.lemmas.List.Sorted.{searchable_from_sorted}
use Rattle.std.proofs.lemmas.Map.Keys.{Less-from_sorted}
use Rattle.class_paths.specs.Paths.{Paths, insert_path, IsIncreasing}

-- byte order
abbrev order : List ℕ → List ℕ → Ordering
order = slice_cmp nat_cmp

-- a comparison with its sides exchanged
turned : (p q : List ℕ) (o : Ordering) → order q p ≡ o → order p q ≡ ordering_reverse o
turned p q o e = nat_list_cmp_total.antisymm p q ∙ ap ordering_reverse e

-- along a set the comparisons with a path rise
pub comparisons_rise : (xs : Paths) (p : List ℕ) → IsIncreasing xs → IsNonDecreasingBy (λ q. ordering_index (order q p)) xs
comparisons_rise xs p up =
    searchable_from_sorted nat_list_cmp_total (λ q. q) xs p (λ k d low high.
    ap is_lt (turned (get_or xs (k + 1) d) (get_or xs k d) Less
    (Less-from_sorted order xs k (k + 1) d up (omega arith) high)))

-- the set of no path is in byte order
pub none_increasing : IsIncreasing []
unfolding IsStrictlySortedBy
none_increasing = tt

-- adding a path that the set has changes nothing
pub insert_path_there : (xs : Paths) (p : List ℕ) (at : ℕ) → IsIncreasing xs → at < length xs
    → HoldsAt (λ q. order q p ≡ Equal) xs at → insert_path p xs ≡ xs
unfolding IsStrictlySortedBy
insert_path_there [] p at up in_range same = let no : ⊥ = omega arith in absurd no
insert_path_there (q ∷ qs) p zero up in_range same = rw (turned p q Equal (same q)) refl
insert_path_there (q ∷ qs) p (suc at) up in_range same =
    let below = Less-from_sorted order (q ∷ qs) 0 (suc at) q up (omega arith) in_range in
    let less = turned p q Less (alike_right nat_list_cmp_total p _ q (turned p _ Equal (same q)) ∙ below) in
    rw less (ap (λ (t : Paths). q ∷ t) (insert_path_there qs p at up.1 (omega arith) (λ d. same d)))

-- a missing path belongs between the lesser and the greater ones
pub insert_path_missing : (xs : Paths) (p : List ℕ) (at : ℕ) → at ≤ length xs
    → IsPartitionPoint (λ q. order q p ≡ Less) (λ q. order q p ≡ Greater) xs at → insert_path p xs ≡ insert xs at p
insert_path_missing [] p zero in_range parted = refl
insert_path_missing [] p (suc at) in_range parted = let no : ⊥ = omega arith in absurd no
insert_path_missing (q ∷ qs) p zero in_range parted = rw (turned p q Greater (parted.1 0 q (omega arith) (omega arith))) refl
insert_path_missing (q ∷ qs) p (suc at) in_range parted =
    let rest = insert_path_missing qs p at (omega arith) (
      (λ k d low high.
          parted.0 (suc k) d (omega arith) (omega arith)),
      (λ k d low high. parted.1 (suc k) d (omega arith) (omega arith)),
    ) in
    rw (turned p q Less (parted.0 0 q (omega arith) (omega arith))) (ap (λ (t : Paths). q ∷ t) rest)

-- what holds of each path of a set and of another path holds of the set with that path added
pub all_in_insert_path : (P : List ℕ → Type 0) (xs : Paths) (p : List ℕ) → P p → AllByRecursion P xs → AllByRecursion P (insert_path p xs)
all_in_insert_path P [] p one all = (one, tt)
all_in_insert_path P (q ∷ qs) p one all =
    elim (order p q) as (λ o. AllByRecursion P (match_ordering o (p ∷ q ∷ qs) (q ∷ qs) (q ∷ insert_path p qs))) [
      | Less ↦ (one, all)
      | Equal ↦ all
      | Greater ↦ (all.0, all_in_insert_path P qs p one all.1)
    ]

-- a path that is less than another is less than all that the other is less than
below_all : (p q : List ℕ) (xs : Paths) → order p q ≡ Less → AllByRecursion (λ y. order q y ≡ Less) xs → AllByRecursion (λ y. order p y ≡ Less) xs
below_all p q [] less all = tt
below_all p q (x ∷ xs) less all = (nat_list_cmp_total.trans p q x less all.0, below_all p q xs less all.1)

-- a set with a path added is in byte order too
pub insert_path_increasing : (xs : Paths) (p : List ℕ) → IsIncreasing xs → IsIncreasing (insert_path p xs)
unfolding IsStrictlySortedBy
insert_path_increasing [] p up = (tt, tt)
insert_path_increasing (q ∷ qs) p up =
    (elim (order p q) as (λ o. order p q ≡ o
    → IsIncreasing (match_ordering o (p ∷ q ∷ qs) (q ∷ qs) (q ∷ insert_path p qs))) [
      | Less ↦ λ less. ((less, below_all p q qs less up.0), up)
      | Equal ↦ λ same. up
      | Greater ↦ λ greater. (all_in_insert_path (λ y. order q y ≡ Less) qs p (turned q p Greater greater) up.0, insert_path_increasing qs p up.1)
    ]) refl
