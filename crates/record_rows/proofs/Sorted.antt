-- Numbers and holds that ascend are sorted; sorted lists with the same members are equal.
use Rattle.std.proofs.Common.{◌≡◌, ℕ, ◌+◌, ◌<◌, ◌≤◌, ◌==◌, nat_le, nat_lt, Bool, true, false, ◌||◌, if◌then◌else◌, List}
use Rattle.std.proofs.Common.{[], ◌∷◌, inl, inr, Ordering, Less, Equal, Greater, nat_cmp, refl, ap, sym, ◌∙◌, arith}
use Rattle.std.proofs.lemmas.Bool.{cases_Bool, cases_order}
use Rattle.std.proofs.lemmas.Bool.Decides.{nat_tests}
use Rattle.std.proofs.lemmas.Cmp.{nat_cmp_total, nat_list_cmp_total, on_total, then_total}
use Rattle.std.specs.Cmp.{IsTotalOrder}
use Rattle.std.specs.Ordering.{is_lt, ordering_then}
use Rattle.std.specs.Cmp.Lexicographic.{slice_cmp}
use Rattle.std.specs.List.{AllByRecursion}
use Rattle.std.specs.List.Sorted.{IsStrictlySortedBy}
use Rattle.record_tables.specs.Reads.{HoldEntry}
use Rattle.record_rows.specs.SoundRows.{is_one_of, hold_cmp}
use Rattle.record_rows.specs.Tests.{rises_from, rises_over, rises_after, hold_rises}

all_weaker : {A : Type 0} (P Q : A → Type 0) → ((a : A) → P a → Q a) → (xs : List A) → AllByRecursion P xs → AllByRecursion Q xs
all_weaker P Q f [] h = tt
all_weaker P Q f (x ∷ xs) h = (f x h.0, all_weaker P Q f xs h.1)

-- ---- numbers

cmp_less : (x y : ℕ) → x + 1 ≤ y → nat_cmp x y ≡ Less
cmp_less x y h = grind (arith, nat_tests)

less_cmp : (x y : ℕ) → nat_cmp x y ≡ Less → x + 1 ≤ y
less_cmp x y h = grind (arith, nat_tests)

le_test : (x y : ℕ) → nat_le x y ≡ true → x ≤ y
le_test x y h = grind (arith, nat_tests)

test_le : (x y : ℕ) → x ≤ y → nat_le x y ≡ true
test_le x y h = grind (arith, nat_tests)

rises_sorted : (n : ℕ) (xs : List ℕ) → rises_from n xs ≡ true → AllByRecursion (λ x. n ≤ x) xs × IsStrictlySortedBy nat_cmp xs
unfolding IsStrictlySortedBy
rises_sorted n [] e = (tt, tt)
rises_sorted n (x ∷ xs) e = elim (cases_Bool (nat_le n x)) [
  | inl is ↦
      let low = le_test n x is in
      let rest = rises_sorted (x + 1) xs (rw is at e) in (
        (low, all_weaker (λ y. x + 1 ≤ y) (λ y. n ≤ y) (λ y h. omega arith) xs rest.0),
        (all_weaker (λ y. x + 1 ≤ y) (λ y. nat_cmp x y ≡ Less) (cmp_less x) xs rest.0, rest.1),
      )
  | inr other ↦ let k : false ≡ true = rw other at e in absurd (cc)
]

sorted_rises : (n : ℕ) (xs : List ℕ) → AllByRecursion (λ x. n ≤ x) xs → IsStrictlySortedBy nat_cmp xs → rises_from n xs ≡ true
unfolding IsStrictlySortedBy
sorted_rises n [] low s = refl
sorted_rises n (x ∷ xs) low s =
    rw (test_le n x low.0) (sorted_rises (x + 1) xs (all_weaker (λ y. nat_cmp x y ≡ Less) (λ y.
    x + 1 ≤ y) (less_cmp x) xs s.0) s.1)

none_low : (xs : List ℕ) → AllByRecursion (λ x. 0 ≤ x) xs
none_low [] = tt
none_low (x ∷ xs) = (omega arith, none_low xs)

pub rises-sorted : (xs : List ℕ) → rises_from 0 xs ≡ true → IsStrictlySortedBy nat_cmp xs
rises-sorted xs e = (rises_sorted 0 xs e).1

pub sorted-rises : (xs : List ℕ) → IsStrictlySortedBy nat_cmp xs → rises_from 0 xs ≡ true
sorted-rises xs s = sorted_rises 0 xs (none_low xs) s

-- ---- holds

hold_total : IsTotalOrder hold_cmp
hold_total = then_total (on_total (λ (h : HoldEntry). h.number) nat_cmp_total) (on_total (λ (h : HoldEntry). h.name) nat_list_cmp_total)

lt_less : (o : Ordering) → is_lt o ≡ true → o ≡ Less
lt_less Less e = refl
lt_less Equal e = absurd (cc)
lt_less Greater e = absurd (cc)

cmp_equal : (x y : ℕ) → (x == y) ≡ true → nat_cmp x y ≡ Equal
cmp_equal x y e = grind (arith, nat_tests)

cmp_below : (x y : ℕ) → nat_lt x y ≡ true → nat_cmp x y ≡ Less
cmp_below x y e = grind (arith, nat_tests)

hold_if : (b : Bool) (x y : HoldEntry) → (x.number == y.number) ≡ b
    → (if b then is_lt (slice_cmp nat_cmp x.name y.name) else nat_lt x.number y.number) ≡ true → hold_cmp x y ≡ Less
hold_if true x y e h = ap (λ o. ordering_then o (slice_cmp nat_cmp x.name y.name)) (cmp_equal x.number y.number e) ∙ lt_less _ h
hold_if false x y e h = ap (λ o. ordering_then o (slice_cmp nat_cmp x.name y.name)) (cmp_below x.number y.number h)

hold_less : (x y : HoldEntry) → hold_rises x y ≡ true → hold_cmp x y ≡ Less
hold_less x y e = hold_if (x.number == y.number) x y refl e

less_if : (b : Bool) (o : Ordering) (x y : HoldEntry) → (x.number == y.number) ≡ b → nat_cmp x.number y.number ≡ o
    → ordering_then o (slice_cmp nat_cmp x.name y.name) ≡ Less
    → (if b then is_lt (slice_cmp nat_cmp x.name y.name) else nat_lt x.number y.number) ≡ true
less_if true Less x y e f h = absurd (let k : Equal ≡ Less = sym (cmp_equal x.number y.number e) ∙ f in cc)
less_if true Equal x y e f h = ap is_lt h
less_if true Greater x y e f h = absurd (cc)
less_if false Less x y e f h = grind (arith, nat_tests)
less_if false Equal x y e f h = grind (arith, nat_tests)
less_if false Greater x y e f h = absurd (cc)

less_hold : (x y : HoldEntry) → hold_cmp x y ≡ Less → hold_rises x y ≡ true
less_hold x y e = less_if (x.number == y.number) (nat_cmp x.number y.number) x y refl refl e

over_sorted : (h : HoldEntry) (xs : List HoldEntry) → rises_over h xs ≡ true
    → AllByRecursion (λ y. hold_cmp h y ≡ Less) xs × IsStrictlySortedBy hold_cmp xs
unfolding IsStrictlySortedBy
over_sorted h [] e = (tt, tt)
over_sorted h (x ∷ xs) e = elim (cases_Bool (hold_rises h x)) [
  | inl is ↦
      let first = hold_less h x is in
      let rest = over_sorted x xs (rw is at e) in
      ((first, all_weaker (λ y. hold_cmp x y ≡ Less) (λ y. hold_cmp h y ≡ Less) (λ y k. hold_total.trans h x y first k) xs rest.0), (rest.0, rest.1))
  | inr other ↦ let k : false ≡ true = rw other at e in absurd (cc)
]

sorted_over : (h : HoldEntry) (xs : List HoldEntry) → AllByRecursion (λ y. hold_cmp h y ≡ Less) xs
    → IsStrictlySortedBy hold_cmp xs → rises_over h xs ≡ true
unfolding IsStrictlySortedBy
sorted_over h [] low s = refl
sorted_over h (x ∷ xs) low s = rw (less_hold h x low.0) (sorted_over x xs s.0 s.1)

pub holds-sorted : (hs : List HoldEntry) → rises_after hs ≡ true → IsStrictlySortedBy hold_cmp hs
unfolding IsStrictlySortedBy
holds-sorted [] e = tt
holds-sorted (h ∷ hs) e = over_sorted h hs e

pub sorted-holds : (hs : List HoldEntry) → IsStrictlySortedBy hold_cmp hs → rises_after hs ≡ true
unfolding IsStrictlySortedBy
sorted-holds [] s = refl
sorted-holds (h ∷ hs) s = sorted_over h hs s.0 s.1

-- ---- sorted numbers with the same members

none_below : (n : ℕ) (xs : List ℕ) → AllByRecursion (λ y. n + 1 ≤ y) xs → is_one_of xs n ≡ false
none_below n [] h = refl
none_below n (x ∷ xs) h = let test : (x == n) ≡ false = (let low = h.0 in grind (arith, nat_tests)) in rw test (none_below n xs h.1)

above : (x : ℕ) (xs : List ℕ) → AllByRecursion (λ y. nat_cmp x y ≡ Less) xs → AllByRecursion (λ y. x + 1 ≤ y) xs
above x xs h = all_weaker (λ y. nat_cmp x y ≡ Less) (λ y. x + 1 ≤ y) (less_cmp x) xs h

itself : (x : ℕ) (xs : List ℕ) → is_one_of (x ∷ xs) x ≡ true
itself x xs = let test : (x == x) ≡ true = grind (arith, nat_tests) in rw test refl

-- a number below the first of a sorted list is not in it
below_first : (n x : ℕ) (xs : List ℕ) → n < x → AllByRecursion (λ y. x + 1 ≤ y) xs → is_one_of (x ∷ xs) n ≡ false
below_first n x xs less h = none_below n (x ∷ xs) (omega arith, all_weaker (λ y. x + 1 ≤ y) (λ y. n + 1 ≤ y) (λ y k. omega arith) xs h)

tail_if : (b : Bool) (x n : ℕ) (xs ys : List ℕ) → (x == n) ≡ b → AllByRecursion (λ y. x + 1 ≤ y) xs
    → AllByRecursion (λ y. x + 1 ≤ y) ys → (b || is_one_of xs n) ≡ (b || is_one_of ys n)
    → is_one_of xs n ≡ is_one_of ys n
tail_if true x n xs ys e h k s =
    let same : x ≡ n = grind (arith, nat_tests) in
    ap (is_one_of xs) (sym same) ∙ none_below x xs h ∙ sym (none_below x ys k) ∙ ap (is_one_of ys) same
tail_if false x n xs ys e h k s = s

pub sorted-same : (xs ys : List ℕ) → IsStrictlySortedBy nat_cmp xs → IsStrictlySortedBy nat_cmp ys
    → ((n : ℕ) → is_one_of xs n ≡ is_one_of ys n) → xs ≡ ys
unfolding IsStrictlySortedBy
sorted-same [] [] s t same = refl
sorted-same [] (y ∷ ys) s t same = let k : false ≡ true = same y ∙ itself y ys in absurd (cc)
sorted-same (x ∷ xs) [] s t same = let k : false ≡ true = sym (same x) ∙ itself x xs in absurd (cc)
sorted-same (x ∷ xs) (y ∷ ys) s t same = elim (cases_order x y) [
  | inr (inl less) ↦ let k : false ≡ true = sym (below_first x y ys less (above y ys t.0)) ∙ sym (same x) ∙ itself x xs in absurd (cc)
  | inl first ↦
      let low : AllByRecursion (λ z. x + 1 ≤ z) ys = all_weaker (λ z. y + 1 ≤ z) (λ z. x + 1 ≤ z) (λ z k. omega arith) ys (above y ys t.0) in
      let rest : (n : ℕ) → is_one_of xs n ≡ is_one_of ys n = λ n.
      tail_if (x == n) x n xs ys refl (above x xs s.0) low (same n
      ∙ ap (λ z. (z == n) || is_one_of ys n) (sym first)) in
      λ i. first i ∷ sorted-same xs ys s.1 t.1 rest i
  | inr (inr more) ↦ let k : false ≡ true = sym (below_first y x xs more (above x xs s.0)) ∙ same y ∙ itself y ys in absurd (cc)
]
