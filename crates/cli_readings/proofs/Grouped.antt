-- Groups of records by what stands for their messages.
use Rattle.std.proofs.Common.{◌≡◌, ℕ, ◌==◌, ◌&&◌, ◌<◌, ◌≤◌, ltb, get_or, ◌⊎◌, inl, inr}
use Rattle.std.proofs.Common.{Bool, true, false, cond, not, List, [], ◌∷◌, ◌++◌, length, filter}
use Rattle.std.proofs.Common.{Option, Some, None, Bor, Ordering, Less, Equal, Greater, refl, sym, ap, ap₂, ◌∙◌, append-nil, arith}
use Rattle.std.proofs.Common.{◌-◌, zero, suc, subst}
use Rattle.std.proofs.lemmas.Bool.{ltb-true, not-true}
use Rattle.std.proofs.lemmas.Cmp.{nat_cmp_total, nat_list_cmp_total, then_total}
use Rattle.std.proofs.lemmas.Fn.{always_returns_same}
use Rattle.std.proofs.lemmas.List.{append_assoc}
use Rattle.std.proofs.lemmas.List.Elements.{All-push, All-weaker, All-filter, All-contains, Contains-append_cases, filter_passes}
use Rattle.std.proofs.lemmas.List.MinMax.{ranks_by}
use Rattle.std.proofs.lemmas.List.Sorted.{All-permutation, Contains-permutation, IsPermutation-filter_both, IsPermutation-map}
use Rattle.std.proofs.lemmas.Map.Entries.{place_from_lookup}
use Rattle.std.proofs.lemmas.Map.Keys.{IsDistinct-from_sorted, IsDistinct-IsPermutation}
use Rattle.std.proofs.lemmas.Map.Made.{IsDistinct-keys_filter}
use Rattle.std.proofs.lemmas.Map.Text.{is_eq-slice_cmp}
use Rattle.std.proofs.lemmas.Map.Views.{All-found, exact_unsigned_eq}
use Rattle.std.proofs.lemmas.Option.{get_or_from_slice_get, slice_get_cases, slice_get_past, slice_get_read}
use Rattle.std.proofs.lemmas.Slice.Eq.{bytes_eq-Decides}
use Rattle.std.specs.BTreeMap.{BTreeMap, IsOrdered, get, is_at}
use Rattle.std.specs.Cmp.{IsTotalOrder, on_total, tied_then}
use Rattle.std.specs.Fn.{Mut, Called}
use Rattle.std.specs.List.{AllByRecursion, Contains, IsDistinct, slice_get}
use Rattle.std.specs.List.Sorted.{IsPermutation, IsSortedByClosure, IsSortedByKey}
use Rattle.std.specs.Map.{keys_of}
use Rattle.std.specs.Option.{option_copied}
use Rattle.std.specs.Ordering.{eq_by_cmp, is_eq, is_lt, nat_cmp}
use Rattle.std.specs.Slice.{IsItemAt}
use Rattle.std.specs.Str.{bytes_eq}
use Rattle.cli_readings.specs.declared.groups.Sealed.{Sealed}
use Rattle.cli_readings.specs.declared.groups.Group.{Group}
use Rattle.cli_readings.specs.Groups.{Added, AreTwice, AreUnder, IsListed, IsWhole, Key, KeyedGroup, OwnKey}
use Rattle.cli_readings.specs.Groups.{is_same, is_twice, key_of, order_of, place_order, records_in, records_of, twice_in, was_twice, with_key}

-- ---- seals

is_eq_nat : (a b : ℕ) → is_eq (nat_cmp a b) ≡ (a == b)
is_eq_nat a b = go (ltb a b) (a == b) refl refl
  where
    go : (l e : Bool) → ltb a b ≡ l → (a == b) ≡ e → is_eq (cond l Less (cond e Equal Greater)) ≡ e
    go true true less same = absurd (omega (arith, ltb-true a b less, exact_unsigned_eq a b same))
    go true false less same = refl
    go false true less same = refl
    go false false less same = refl

-- the order of seals tells them apart
tied : (x y : OwnKey) → is_at (order_of x) y ≡ is_same (key_of x) (key_of y)
tied x y = sym (tied_then (nat_cmp x.0 y.0) _) ∙ ap₂ ◌&&◌ (is_eq_nat x.0 y.0) (is_eq-slice_cmp x.1.items y.1.items)

same_key : (x y : Key) → is_same x y ≡ true → x ≡ y
same_key x y h = go (x.0 == y.0) (bytes_eq x.1 y.1) refl refl h
  where
    go : (a b : Bool) → (x.0 == y.0) ≡ a → bytes_eq x.1 y.1 ≡ b → (a && b) ≡ true → x ≡ y
    go true true one other both = ap₂ (λ n ns. (n, ns)) (exact_unsigned_eq x.0 y.0 one) ((bytes_eq-Decides x.1 y.1).0 other)
    go true false one other both = absurd (cc both)
    go false b one other both = absurd (cc both)

flips : (x y : Key) → is_same x y ≡ is_same y x
flips x y = go (is_same x y) (is_same y x) refl refl
  where
    go : (a b : Bool) → is_same x y ≡ a → is_same y x ≡ b → a ≡ b
    go true true h k = refl
    go true false h k = let e = same_key x y h in absurd (cc (sym h ∙ ap₂ is_same e (sym e) ∙ k))
    go false true h k = let e = same_key y x k in absurd (cc (sym k ∙ ap₂ is_same e (sym e) ∙ h))
    go false false h k = refl

total : IsTotalOrder order_of
total = then_total (on_total (λ (x : OwnKey). x.0) nat_cmp_total) (on_total (λ (x : OwnKey). x.1.items) nat_list_cmp_total)

place_total : IsTotalOrder place_order
place_total = then_total (on_total (λ (r : Sealed). r.volume) nat_cmp_total) (on_total (λ (r : Sealed). r.number) nat_cmp_total)

-- ---- a record more

with_key_more : (key : Key) (es : List Added) (k : Key) (r : Sealed)
    → with_key key (es ++ (k, r) ∷ []) ≡ with_key key es ++ cond (is_same k key) (r ∷ []) []
with_key_more key [] k r = refl
with_key_more key (e ∷ es) k r = go (is_same e.0 key) (with_key_more key es k r)
  where
    go : (b : Bool) → with_key key (es ++ (k, r) ∷ []) ≡ with_key key es ++ cond (is_same k key) (r ∷ []) []
        → cond b (e.1 ∷ with_key key (es ++ (k, r) ∷ [])) (with_key key (es ++ (k, r) ∷ []))
        ≡ cond b (e.1 ∷ with_key key es) (with_key key es) ++ cond (is_same k key) (r ∷ []) []
    go true h = ap (λ l. e.1 ∷ l) h
    go false h = h

-- a record is added behind those that stand under its seal
pub added_one : (m n : BTreeMap OwnKey Group) (own : OwnKey) (r : Sealed) (old : Option Group) (w : Group) → get order_of m own ≡ old
    → records_of w ≡ records_in old ++ r ∷ [] → ((q : OwnKey) → get order_of n q ≡ cond (is_at (order_of own) q) (Some w) (get order_of m q))
    → (added : List Added) → AreUnder m added → AreUnder n (added ++ (key_of own, r) ∷ [])
added_one m n own r old w was more new added under = record {
  records = λ q.
      ap records_in (new q) ∙ ap (λ b. records_in (cond b (Some w) (get order_of m q))) (tied own q)
      ∙ go q (is_same (key_of own) (key_of q)) refl ∙ sym (with_key_more (key_of q) added (key_of own) r);
  seals = All-push (λ (e : Added). (k : OwnKey) × (key_of k ≡ e.0)) added (key_of own, r) under.seals (own, refl);
}
  where
    go : (q : OwnKey) (b : Bool) → is_same (key_of own) (key_of q) ≡ b
        → records_in (cond b (Some w) (get order_of m q)) ≡ with_key (key_of q) added ++ cond b (r ∷ []) []
    go q true same =
        more ∙ ap (λ l. l ++ r ∷ []) (ap records_in (sym was) ∙ under.records own
        ∙ ap (λ k. with_key k added) (same_key (key_of own) (key_of q) same))
    go q false same = under.records q ∙ sym (append-nil (with_key (key_of q) added))

-- ---- what was captured twice

at_place : {X : Type 0} (xs : List X) (i : ℕ) (x : X) → slice_get xs i ≡ Some x → Contains xs x
at_place {X = X} xs i x is = go (slice_get_cases xs i).1
  where
    go : ((y : X) × (i < length xs) × (slice_get xs i ≡ Some y) × (get_or xs i y ≡ y)) ⊎ ((length xs ≤ i) × (slice_get xs i ≡ None)) → Contains xs x
    go (inl found) = (i, found.1, get_or_from_slice_get xs i x x is)
    go (inr none) = absurd (cc (sym is ∙ none.1))

kept_by : {X : Type 0} (p : X → Bool) (xs : List X) (x : X) → Contains xs x → p x ≡ true → Contains (filter p xs) x
kept_by p xs x there passes =
    go (Contains-append_cases (filter p xs) (filter (λ y. not (p y)) xs) x
    (Contains-permutation xs _ x (IsPermutation-filter_both p (λ y. not (p y)) (λ y. refl) xs) there))
  where
    go : Contains (filter p xs) x ⊎ Contains (filter (λ y. not (p y)) xs) x → Contains (filter p xs) x
    go (inl kept) = kept
    go (inr left) =
        let fails = not-true (p x) (All-contains (λ y. not (p y) ≡ true) _ x (filter_passes (λ y. not (p y)) xs) left) in
        absurd (cc (sym passes ∙ fails))

distinct_as : {K : Type 0} (e f : K → K → Bool) → ((x y : K) → e x y ≡ f x y) → (ks : List K) → IsDistinct e ks → IsDistinct f ks
unfolding IsDistinct
distinct_as e f same [] d = d
distinct_as {K = K} e f same (k ∷ ks) d = (apart ks d.0, distinct_as e f same ks d.1)
  where
    apart : (ys : List K) → AllByRecursion (λ y. e k y ≡ false) ys → AllByRecursion (λ y. f k y ≡ false) ys
    apart [] h = h
    apart (y ∷ ys) h = (sym (same k y) ∙ h.0, apart ys h.1)

pub twice_are : (m : BTreeMap OwnKey Group) (added : List Added) (groups : List KeyedGroup) → AreUnder m added → IsOrdered order_of m
    → IsPermutation (twice_in m) groups → IsSortedByKey (λ (g : KeyedGroup). g.1.first) place_order groups → AreTwice added groups
twice_are m added groups under ordered moved sorted = record {
  whole = All-permutation (IsWhole added) (twice_in m) groups moved (All-filter was_twice (IsWhole added) m.entries
      (All-weaker (λ (e : KeyedGroup). get order_of m e.0 ≡ Some e.1) (IsWhole added)
      (λ e found. ap records_in (sym found) ∙ under.records e.0) m.entries (All-found total m ordered)));
  twice = All-permutation (λ g. was_twice g ≡ true) (twice_in m) groups moved (filter_passes was_twice m.entries);
  each = All-weaker (λ (e : Added). (own : OwnKey) × (key_of own ≡ e.0)) (λ e. is_twice (with_key e.0 added) ≡ true → IsListed groups e.0)
      (λ e own two. listed e own.0 own.1 two (get order_of m own.0) refl) added under.seals;
  once = IsDistinct-IsPermutation (λ (x y : OwnKey). is_same (key_of x) (key_of y)) (λ x y. flips (key_of x) (key_of y))
      (keys_of (twice_in m)) (keys_of groups)
      (IsPermutation-map (λ (e : KeyedGroup). e.0) (twice_in m) groups moved)
      (IsDistinct-keys_filter _ was_twice m.entries (distinct_as (eq_by_cmp order_of) (λ x y. is_same (key_of x) (key_of y)) tied (keys_of m.entries)
      (IsDistinct-from_sorted order_of (keys_of m.entries) ordered)));
  ordered = sorted;
}
  where
    listed : (e : Added) (own : OwnKey) → key_of own ≡ e.0 → is_twice (with_key e.0 added) ≡ true → (o : Option Group)
        → get order_of m own ≡ o → IsListed groups e.0
    listed e own is two None miss =
        let none : is_twice [] ≡ true =
        ap (λ o. is_twice (records_in o)) (sym miss) ∙ ap is_twice (under.records own ∙ ap (λ k. with_key k added) is) ∙ two in
        absurd (cc none)
    listed e own is two (Some g) found =
        let place = place_from_lookup (is_at (order_of own)) m.entries g found in
        let there = at_place m.entries place.0 (place.1, g) place.2 in
        let passes : is_twice (records_of g) ≡ true =
        ap (λ o. is_twice (records_in o)) (sym found) ∙ ap is_twice (under.records own ∙ ap (λ k. with_key k added) is) ∙ two in
        let same = same_key (key_of own) (key_of place.1) (sym (tied own place.1) ∙ place.3) in
        ((place.1, g), Contains-permutation (twice_in m) groups _ moved (kept_by was_twice m.entries _ there passes), sym same ∙ is)

-- the next group is added, if its message was captured twice
pub more_twice : (ts us left rest : List KeyedGroup) (x : KeyedGroup) (all : List KeyedGroup) → us ≡ ts ++ filter was_twice (x ∷ [])
    → left ≡ x ∷ rest → ts ++ filter was_twice left ≡ all → us ++ filter was_twice rest ≡ all
more_twice ts us left rest x all added next before =
    ap (λ l. l ++ filter was_twice rest) added ∙ append_assoc ts (filter was_twice (x ∷ [])) (filter was_twice rest)
    ∙ ap (λ l. ts ++ l) (front (was_twice x)) ∙ ap (λ l. ts ++ filter was_twice l) (sym next) ∙ before
  where
    front : (b : Bool) → cond b (x ∷ []) [] ++ filter was_twice rest ≡ cond b (x ∷ filter was_twice rest) (filter was_twice rest)
    front true = refl
    front false = refl

-- ---- in the order of their first records

pub by_first : {F : Type 0} {g : Mut F (Bor KeyedGroup × (Bor KeyedGroup × Unit {0})) Ordering} {f : F} (shown : List KeyedGroup)
    → IsSortedByClosure g f shown
    → ((a : Bor KeyedGroup × (Bor KeyedGroup × Unit {0})) (r : Ordering) (f' : F) → Called g f a r f'
    → (r ≡ place_order a.0.now.1.first a.1.0.now.1.first) × (f' ≡ f))
    → IsSortedByKey (λ (k : KeyedGroup). k.1.first) place_order shown
by_first {g = g} {f = f} shown up calls =
    let first = λ (k : KeyedGroup). k.1.first in
    let answers = always_returns_same g (λ a r. is_lt r ≡ is_lt (place_order (first a.0.now) (first a.1.0.now))) f
    (λ a r f' k. (ap is_lt (calls a r f' k).0, (calls a r f' k).1)) in
    up _ (ranks_by place_total first) answers

-- ---- a record of a group

pub other_record : (first : Sealed) (others : List Sealed) (n : ℕ) (o : Option (Bor Sealed)) (r : Option Sealed) → (n ≡ 0 → ⊥)
    → IsItemAt others (n - 1) o → r ≡ option_copied o → r ≡ slice_get (first ∷ others) n
other_record first others zero o r more item is = absurd (more refl)
other_record first others (suc m) o r more item is =
    let same : suc m - 1 ≡ m = omega arith in is ∙ go o (subst (λ k. IsItemAt others k o) same item)
  where
    go : (p : Option (Bor Sealed)) → IsItemAt others m p → option_copied p ≡ slice_get others m
    go None at = sym (slice_get_past others m at.3)
    go (Some x) at = sym (slice_get_read others (length others) m x.now refl at.3.0 at.1)
