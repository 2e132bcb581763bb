-- Holds in order, and sums over lists that have the same elements.
use Rattle.std.proofs.Common.{◌≡◌, ◌+◌, ◌==◌, ◌&&◌, ◌<◌, ℕ, pos, Bool, true, false, cond, List, [], ◌∷◌, map}
use Rattle.std.proofs.Common.{Ordering, Less, Equal, Greater, int_cmp, nat_cmp, is_eq, refl, sym, ap, subst, ◌∙◌, arith}
use Rattle.std.proofs.Common.{IsPermutation}
use Rattle.std.proofs.lemmas.Int.{ints}
use Rattle.std.proofs.lemmas.Bool.Decides.{nat_tests}
use Rattle.std.proofs.lemmas.Cmp.{int_cmp_total, nat_list_cmp_total, on_total, then_total}
use Rattle.std.proofs.lemmas.Map.Text.{is_eq-slice_cmp}
use Rattle.std.proofs.lemmas.List.Sorted.{IsPermutation-sym}
use Rattle.std.specs.Cmp.{IsTotalOrder}
use Rattle.std.specs.Cmp.Lexicographic.{slice_cmp}
use Rattle.std.specs.Ordering.{ordering_then}
use Rattle.std.specs.Str.{bytes_eq}
use Rattle.std.specs.List.{AllByRecursion}
use Rattle.std.specs.List.Sorted.{IsStrictlySortedBy}
use Rattle.sqlite_trees.specs.Tree.{IsAscending}
use Rattle.sqlite_keyed.proofs.ListLemmas.{ascending-map, ascending_weaker, map-map, along_permutation}
use Rattle.sqlite_keyed.proofs.SortLemmas.{IsPermutation-sort_by}
use Rattle.record_tables.specs.Rows.{Tables}
use Rattle.record_tables.specs.Reads.{HoldEntry, hold_entry, hold_cmp as row_cmp, AreHolds}
use Rattle.record_rows.specs.SoundRows.{hold_cmp}
use Rattle.record_archive.specs.Archive.{Archive, Hold, is_hold}
use Rattle.record_adoption.specs.Adoption.{AreOnce, named_hold, sorted_holds}
use Rattle.record_adoption.specs.Counts.{tally}
use Rattle.record_adoption.specs.Keeping.{hold_of}
use Rattle.record_adoption.proofs.Sorting.{rises-sort}

-- ---- holds

pub named_total : IsTotalOrder row_cmp
named_total = then_total (on_total (λ (h : HoldEntry). pos h.number) int_cmp_total) (on_total (λ (h : HoldEntry). h.name) nat_list_cmp_total)

pub cmp_is : (m n : ℕ) → int_cmp (pos m) (pos n) ≡ nat_cmp m n
cmp_is m n = grind (arith, ints)

eq_is : (m n : ℕ) → is_eq (nat_cmp m n) ≡ (m == n)
eq_is m n = grind (arith, nat_tests)

eq_then : (o p : Ordering) → is_eq (ordering_then o p) ≡ (is_eq o && is_eq p)
eq_then Less p = refl
eq_then Equal p = refl
eq_then Greater p = refl

number_eq-sym : (m n : ℕ) → (m == n) ≡ (n == m)
number_eq-sym m n = grind arith

bytes_eq-sym : (s t : List ℕ) → bytes_eq s t ≡ bytes_eq t s
bytes_eq-sym [] [] = refl
bytes_eq-sym [] (y ∷ t) = refl
bytes_eq-sym (x ∷ s) [] = refl
bytes_eq-sym (x ∷ s) (y ∷ t) = λ i. number_eq-sym x y i && bytes_eq-sym s t i

and-swap : (a b : Bool) → (a && b) ≡ (b && a)
and-swap true true = refl
and-swap true false = refl
and-swap false true = refl
and-swap false false = refl

apart : (x y : Hold) → is_hold x.name x.number y ≡ false → is_eq (row_cmp (named_hold x) (named_hold y)) ≡ false
apart x y h =
    eq_then (int_cmp (pos x.number) (pos y.number)) (slice_cmp nat_cmp x.name y.name)
    ∙ (λ i. (ap is_eq (cmp_is x.number y.number) ∙ eq_is x.number y.number ∙ number_eq-sym x.number y.number) i
    && (is_eq-slice_cmp x.name y.name ∙ bytes_eq-sym x.name y.name) i)
    ∙ and-swap (y.number == x.number) (bytes_eq y.name x.name) ∙ h

-- no two holds are the same by record and name
pub holds_apart : (a : Archive) → AreOnce a.holds → IsAscending (λ x y. is_eq (row_cmp x y) ≡ false) (map named_hold a.holds)
holds_apart a once =
    ascending-map (λ x y. is_eq (row_cmp x y) ≡ false) named_hold a.holds (ascending_weaker _ (λ (x y : Hold).
    is_eq (row_cmp (named_hold x) (named_hold y)) ≡ false) apart a.holds once)

pub holds_rise : (a : Archive) → AreOnce a.holds → IsAscending (λ x y. row_cmp x y ≡ Less) (sorted_holds a)
holds_rise a once = rises-sort row_cmp named_total (map named_hold a.holds) (holds_apart a once)

pub holds_permuted : (a : Archive) → IsPermutation (sorted_holds a) (map named_hold a.holds)
holds_permuted a = IsPermutation-sort_by row_cmp named_total (map named_hold a.holds)

-- the holds of the table are the archive's, in order
pub are_named : (t : Tables) (a : Archive) → map hold_of t.holds ≡ a.holds → AreOnce a.holds → AreHolds t (sorted_holds a)
are_named t a same once =
    let them : map named_hold a.holds ≡ map hold_entry t.holds = ap (map named_hold) (sym same) ∙ map-map named_hold hold_of t.holds in
    record {
      same = IsPermutation-sym (sorted_holds a) (map hold_entry t.holds) (subst (IsPermutation (sorted_holds a)) them (holds_permuted a));
      in_order = holds_rise a once;
    }

less_is : (x y : HoldEntry) → row_cmp x y ≡ Less → hold_cmp x y ≡ Less
less_is x y h = ap (λ o. ordering_then o (slice_cmp nat_cmp x.name y.name)) (sym (cmp_is x.number y.number)) ∙ h

sorted_by : {X : Type 0} (c : X → X → Ordering) (xs : List X) → IsAscending (λ x y. c x y ≡ Less) xs → IsStrictlySortedBy c xs
unfolding IsStrictlySortedBy
sorted_by c [] h = tt
sorted_by c (x ∷ xs) h = (h.0, sorted_by c xs h.1)

pub holds_sorted : (a : Archive) → AreOnce a.holds → IsStrictlySortedBy hold_cmp (sorted_holds a)
holds_sorted a once =
    sorted_by hold_cmp (sorted_holds a) (ascending_weaker _ (λ x y.
    hold_cmp x y ≡ Less) less_is (sorted_holds a) (holds_rise a once))

-- ---- numbers in order

less_cmp : (x y : ℕ) → x < y → nat_cmp x y ≡ Less
less_cmp x y h = grind (arith, nat_tests)

cmp_less : (x y : ℕ) → nat_cmp x y ≡ Less → x < y
cmp_less x y h = grind (arith, nat_tests)

pub numbers_sorted : {X : Type 0} (f : X → ℕ) (xs : List X) → IsAscending (λ x y. f x < f y) xs → IsStrictlySortedBy nat_cmp (map f xs)
numbers_sorted f xs h =
    sorted_by nat_cmp (map f xs) (ascending-map (λ x y.
    nat_cmp x y ≡ Less) f xs (ascending_weaker _ (λ x y. nat_cmp (f x) (f y) ≡ Less) (λ x y less.
    less_cmp (f x) (f y) less) xs h))

all_back : {X : Type 0} (f : X → ℕ) (n : ℕ) (xs : List X) → AllByRecursion (λ y. nat_cmp n y ≡ Less) (map f xs) → AllByRecursion (λ x. n < f x) xs
all_back f n [] h = tt
all_back f n (x ∷ xs) h = (cmp_less n (f x) h.0, all_back f n xs h.1)

pub numbers_rise : {X : Type 0} (f : X → ℕ) (xs : List X) → IsStrictlySortedBy nat_cmp (map f xs) → IsAscending (λ x y. f x < f y) xs
unfolding IsStrictlySortedBy
numbers_rise f [] h = tt
numbers_rise f (x ∷ xs) h = (all_back f (f x) xs h.0, numbers_rise f xs h.1)

-- ---- tallies

pub tally-map : {X Y : Type 0} (p : Y → Bool) (f : X → Y) (xs : List X) → tally p (map f xs) ≡ tally (λ x. p (f x)) xs
tally-map p f [] = refl
tally-map p f (x ∷ xs) = ap (λ k. cond {A = ℕ} (p (f x)) 1 0 + k) (tally-map p f xs)

swapped : (a b c : ℕ) → a + (b + c) ≡ b + (a + c)
swapped a b c = omega arith

pub tally-permutation : {X : Type 0} (p : X → Bool) (xs ys : List X) → IsPermutation xs ys → tally p xs ≡ tally p ys
tally-permutation p =
    along_permutation (λ xs ys. tally p xs ≡ tally p ys) (λ xs. refl) (λ x xs ys h. ap (λ k. cond {A = ℕ} (p x) 1 0 + k) h)
    (λ x y xs. swapped (cond {A = ℕ} (p x) 1 0) (cond {A = ℕ} (p y) 1 0) (tally p xs)) (λ xs ys zs h k. h ∙ k)
