-- The entries of a page are those of the archive.
use Rattle.std.proofs.Common.{◌≡◌, ◌<◌, ◌≤◌, ◌+◌, ◌-◌, ◌^◌, ◌==◌, ℕ, zero, suc, pos, Bool, true, false, not, ◌&&◌, ◌||◌}
use Rattle.std.proofs.Common.{cond, List, [], ◌∷◌, length, map, filter, take, drop, slice_get, nat_le, nat_lt}
use Rattle.std.proofs.Common.{Some, int_cmp, int_le, nat_cmp, Ordering, Less, Equal, Greater, is_gt, refl, sym}
use Rattle.std.proofs.Common.{ap, ap₂, subst, ◌∙◌, arith, min, true≢false}
use Rattle.std.specs.List.{AllByRecursion, list_any}
use Rattle.std.specs.Cmp.{IsTotalOrder}
use Rattle.std.specs.Cmp.Lexicographic.{slice_cmp}
use Rattle.std.specs.Ordering.{ordering_then}
use Rattle.std.proofs.lemmas.Bool.{and_parts, or_left, or_right}
use Rattle.std.proofs.lemmas.Bool.Decides.{nat_tests}
use Rattle.std.proofs.lemmas.Cmp.{nat_list_cmp_total, on_total}
use Rattle.std.proofs.lemmas.Int.{ints}
use Rattle.std.proofs.lemmas.List.{take_min}
use Rattle.std.proofs.lemmas.List.Elements.{All-from_recursion, recursion_from_All}
use Rattle.std.proofs.lemmas.List.Sorted.{IsPermutation-sym, All-permutation}
use Rattle.sqlite_trees.specs.Tree.{IsAscending}
use Rattle.sqlite_keyed.specs.Lists.{sort_by, insert_sorted}
use Rattle.sqlite_keyed.proofs.ListLemmas.{all_weaker, all-filter, all_map, ascending-filter, ascending_weaker}
use Rattle.sqlite_keyed.proofs.ListLemmas.{filter_all, filter_none, filter-filter, filter-map, map-map, none_from_any}
use Rattle.sqlite_keyed.proofs.SortLemmas.{sort_by-map}
use Rattle.class_plan.specs.Plans.{Listing}
use Rattle.record_archive.specs.Archive.{Record, Archive, Hold, IsArchive, IsRecord, is_live, has_number}
use Rattle.record_tables.specs.Reads.{HoldEntry, hold_cmp}
use Rattle.record_reads.specs.Pages.{is_between}
use Rattle.record_adoption.specs.Adoption.{named_hold, sorted_holds}
use Rattle.record_adoption.specs.Keeping.{hold_count}
use Rattle.record_adoption.proofs.AdoptHolds.{named_total, cmp_is, holds_apart, holds_rise, holds_permuted}
use Rattle.record_adoption.proofs.Sorting.{all-sort, filter-sort_by}
use Rattle.record_choice.specs.Entries.{listed, entry_of, hold_names, records_from}
use Rattle.record_store.specs.Entries.{names_at_front}
use Rattle.record_store.specs.Entries.{listed_beside, is_on_any, AreHoldsOf, IsPage}
use Rattle.record_store.proofs.DueLemmas.{map_same_on, free_if}
use Rattle.record_store.proofs.EntryReads.{all_taken}

-- ---- lists

-- some element passes, and each that passes shows Q
from_any : {X : Type 0} (p : X → Bool) (Q : Type 0) (xs : List X) → list_any p xs ≡ true → AllByRecursion (λ x. p x ≡ true → Q) xs → Q
from_any p Q [] e all = absurd (true≢false (sym e))
from_any p Q (x ∷ xs) e all = go (p x) refl e (λ h. from_any p Q xs h all.1)
  where
    go : (b : Bool) → p x ≡ b → (b || list_any p xs) ≡ true → (list_any p xs ≡ true → Q) → Q
    go true h e more = all.0 h
    go false h e more = more e

any_weaker : {X : Type 0} (p q : X → Bool) → ((x : X) → p x ≡ true → q x ≡ true) → (xs : List X) → list_any p xs ≡ true → list_any q xs ≡ true
any_weaker p q to [] e = e
any_weaker p q to (x ∷ xs) e = go (p x) refl e (any_weaker p q to xs)
  where
    go : (b : Bool) → p x ≡ b → (b || list_any p xs) ≡ true → (list_any p xs ≡ true → list_any q xs ≡ true) → (q x || list_any q xs) ≡ true
    go true h e more = or_left _ (list_any q xs) (to x h)
    go false h e more = or_right (q x) _ (more e)

filter_same_on : {X : Type 0} (p q : X → Bool) (xs : List X) → AllByRecursion (λ x. p x ≡ q x) xs → filter p xs ≡ filter q xs
filter_same_on p q [] h = refl
filter_same_on p q (x ∷ xs) h = ap₂ (λ b l. cond b (x ∷ l) l) h.0 (filter_same_on p q xs h.1)

ascending_taken : {X : Type 0} (R : X → X → Type 0) (n : ℕ) (xs : List X) → IsAscending R xs → IsAscending R (take n xs)
ascending_taken R zero xs h = tt
ascending_taken R (suc n) [] h = tt
ascending_taken R (suc n) (x ∷ xs) h = (all_taken (R x) n xs h.0, ascending_taken R n xs h.1)

sort_insert_same : {X : Type 0} (c d : X → X → Ordering) (P : X → Type 0) → ((x y : X) → P x → P y → c x y ≡ d x y) → (x : X) (ys : List X) → P x
    → AllByRecursion P ys → insert_sorted c x ys ≡ insert_sorted d x ys
sort_insert_same c d P same x [] h all = refl
sort_insert_same c d P same x (y ∷ ys) h all =
    ap₂ (λ o l. cond (is_gt o) (y ∷ l) (x ∷ y ∷ ys)) (same x y h all.0) (sort_insert_same c d P same x ys h all.1)

-- orders that agree on the elements sort them alike
sort_same : {X : Type 0} (c d : X → X → Ordering) (P : X → Type 0) → IsTotalOrder d → ((x y : X) → P x → P y → c x y ≡ d x y) → (xs : List X)
    → AllByRecursion P xs → sort_by c xs ≡ sort_by d xs
sort_same c d P total same [] all = refl
sort_same c d P total same (x ∷ xs) all =
    ap (insert_sorted c x) (sort_same c d P total same xs all.1) ∙ sort_insert_same c d P same x (sort_by d xs) all.0 (all-sort d total P xs all.1)

-- ---- numbers

eq_yes : (m n : ℕ) → (m == n) ≡ true → m ≡ n
eq_yes m n h = grind (arith, nat_tests, h)

eq_turned : (m n : ℕ) (b : Bool) → (m == n) ≡ b → (n == m) ≡ b
eq_turned m n b h = (let same : (n == m) ≡ (m == n) = grind arith in same) ∙ h

eq_itself : (n : ℕ) → (n == n) ≡ true
eq_itself n = grind arith

above : (n m k : ℕ) → n ≤ m → m ≤ k → (m == n) ≡ false → (k == n) ≡ false
above n m k low up h = grind (arith, nat_tests, low, up, h)

other : (k q n : ℕ) → n < q → (k == q) ≡ true → not (k == n) ≡ true
other k q n low h = grind (arith, nat_tests, low, h)

-- ---- holds in the order of their records

abbrev Rise : List HoldEntry → Type 0
Rise = IsAscending (λ (x y : HoldEntry). x.number ≤ y.number)

abbrev is_on : ℕ → HoldEntry → Bool
is_on n h = h.number == n

abbrev is_off : ℕ → HoldEntry → Bool
is_off n h = not (is_on n h)

abbrev name_of : HoldEntry → List ℕ
name_of h = h.name

abbrev names_on : ℕ → List HoldEntry → List (List ℕ)
names_on n hs = map name_of (filter (is_on n) hs)

later_off : (n : ℕ) (h : HoldEntry) (hs : List HoldEntry) → n ≤ h.number → AllByRecursion (λ (x : HoldEntry). h.number ≤ x.number) hs
    → is_on n h ≡ false → AllByRecursion (λ x. is_on n x ≡ false) hs
later_off n h hs low up e = all_weaker _ (λ x. is_on n x ≡ false) (λ x more. above n h.number x.number low more e) hs up

-- where no hold is on a record below n, those on n come first
front_is : (n : ℕ) (hs : List HoldEntry) → AllByRecursion (λ (h : HoldEntry). n ≤ h.number) hs → Rise hs → names_at_front n hs ≡ names_on n hs
front_is n [] low up = refl
front_is n (h ∷ hs) low up = go (is_on n h) refl (front_is n hs low.1 up.1)
  where
    go : (b : Bool) → is_on n h ≡ b → names_at_front n hs ≡ names_on n hs
        → cond b (h.name ∷ names_at_front n hs) [] ≡ map name_of (cond b (h ∷ filter (is_on n) hs) (filter (is_on n) hs))
    go true e more = ap (λ l. h.name ∷ l) more
    go false e more = sym (ap (map name_of) (filter_none (is_on n) hs (later_off n h hs low.0 up.0 e)))

-- and the others come after them
after_front : (n : ℕ) (hs : List HoldEntry) → AllByRecursion (λ (h : HoldEntry). n ≤ h.number) hs → Rise hs
    → drop (length (names_at_front n hs)) hs ≡ filter (is_off n) hs
after_front n [] low up = refl
after_front n (h ∷ hs) low up = go (is_on n h) refl (after_front n hs low.1 up.1)
  where
    go : (b : Bool) → is_on n h ≡ b → drop (length (names_at_front n hs)) hs ≡ filter (is_off n) hs
        → drop (length (cond b (h.name ∷ names_at_front n hs) [])) (h ∷ hs) ≡ cond (not b) (h ∷ filter (is_off n) hs) (filter (is_off n) hs)
    go true e more = more
    go false e more =
        ap (λ l. h ∷ l)
        (sym (filter_all (is_off n) hs (all_weaker _ (λ x. is_off n x ≡ true) (λ x off. ap not off) hs (later_off n h hs low.0 up.0 e))))

-- ---- records beside their holds

abbrev Below : Record → Record → Type 0
Below x y = x.number < y.number

not_below : (r : Record) (rs : List Record) (k : ℕ) → AllByRecursion (Below r) rs → list_any (has_number k) (r ∷ rs) ≡ true → r.number ≤ k
not_below r rs k up e =
    from_any (has_number k) (r.number ≤ k) (r ∷ rs) e (
      (λ h. let same = eq_yes r.number k h in omega (arith, same)),
      all_weaker (Below r) (λ x. has_number k x ≡ true → r.number ≤ k)
          (λ x low h. let same = eq_yes x.number k h in omega (arith, same, low)) rs up,
    )

still_on : (r : Record) (rs : List Record) (hs : List HoldEntry) → AllByRecursion (λ h. is_on_any (r ∷ rs) h ≡ true) hs
    → AllByRecursion (λ h. is_on_any rs h ≡ true) (filter (is_off r.number) hs)
still_on r rs [] on = tt
still_on r rs (h ∷ hs) on = go (is_on r.number h) refl (still_on r rs hs on.1)
  where
    go : (b : Bool) → is_on r.number h ≡ b → AllByRecursion (λ x. is_on_any rs x ≡ true) (filter (is_off r.number) hs)
        → AllByRecursion (λ x. is_on_any rs x ≡ true) (cond (not b) (h ∷ filter (is_off r.number) hs) (filter (is_off r.number) hs))
    go true e more = more
    go false e more = (subst (λ b. (b || is_on_any rs h) ≡ true) (eq_turned h.number r.number false e) on.0, more)

-- each record is listed with the holds that are on it
beside_is : (p : Listing) (rs : List Record) (hs : List HoldEntry) → IsAscending Below rs → Rise hs → AllByRecursion (λ h. is_on_any rs h ≡ true) hs
    → listed_beside p hs rs ≡ map (λ (r : Record). listed p r (names_on r.number hs)) rs
beside_is p [] hs up rise on = refl
beside_is p (r ∷ rs) hs up rise on =
    let low = all_weaker _ (λ (h : HoldEntry). r.number ≤ h.number) (λ h e. not_below r rs h.number up.0 e) hs on in
    let rest = filter (is_off r.number) hs in
    let more = beside_is p rs rest up.1 (ascending-filter _ (is_off r.number) hs rise) (still_on r rs hs on) in
    ap₂ ◌∷◌ (ap (listed p r) (front_is r.number hs low rise))
    (ap (λ l. listed_beside p l rs) (after_front r.number hs low rise) ∙ more
    ∙ map_same_on (λ (q : Record). listed p q (names_on q.number rest)) (λ (q : Record). listed p q (names_on q.number hs)) rs
    (all_weaker (Below r) (λ (q : Record). listed p q (names_on q.number rest) ≡ listed p q (names_on q.number hs))
    (λ q less. ap (λ l. listed p q (map name_of l))
    (filter-filter (is_on q.number) (is_off r.number) (λ h e. other h.number q.number r.number less e) hs)) rs up.0))

-- ---- the holds of an archive

up_or_level : (o p : Ordering) → ordering_then o p ≡ Less → is_gt o ≡ false
up_or_level Less p h = refl
up_or_level Equal p h = refl
up_or_level Greater p h = absurd cc

le_from : (m n : ℕ) → is_gt (nat_cmp m n) ≡ false → m ≤ n
le_from m n h = grind (arith, nat_tests, h)

number_up : (x y : HoldEntry) → hold_cmp x y ≡ Less → x.number ≤ y.number
number_up x y h =
    le_from x.number y.number
    (sym (ap is_gt (cmp_is x.number y.number)) ∙ up_or_level (int_cmp (pos x.number) (pos y.number)) (slice_cmp nat_cmp x.name y.name) h)

abbrev Once : Archive → Type 0
Once a = IsAscending (λ (x y : Hold). Rattle.record_archive.specs.Archive.is_hold x.name x.number y ≡ false) a.holds

rise_sorted : (a : Archive) → Once a → Rise (sorted_holds a)
rise_sorted a once = ascending_weaker _ (λ (x y : HoldEntry). x.number ≤ y.number) number_up (sorted_holds a) (holds_rise a once)

itself : (n : ℕ) → int_cmp (pos n) (pos n) ≡ Equal
itself n = grind (arith, ints)

same_record : (n : ℕ) (x y : Hold) → x.number ≡ n → y.number ≡ n → hold_cmp (named_hold x) (named_hold y) ≡ slice_cmp nat_cmp x.name y.name
same_record n x y at_x at_y =
    ap₂ (λ i j. ordering_then (int_cmp (pos i) (pos j)) (slice_cmp nat_cmp x.name y.name)) at_x at_y
    ∙ ap (λ o. ordering_then o (slice_cmp nat_cmp x.name y.name)) (itself n)

all_on : (n : ℕ) (xs : List Hold) → AllByRecursion (λ (h : Hold). h.number ≡ n) (filter (λ (h : Hold). h.number == n) xs)
all_on n [] = tt
all_on n (x ∷ xs) = go (x.number == n) refl (all_on n xs)
  where
    go : (b : Bool) → (x.number == n) ≡ b → AllByRecursion (λ (h : Hold). h.number ≡ n) (filter (λ (h : Hold). h.number == n) xs)
        → AllByRecursion (λ (h : Hold). h.number ≡ n) (cond b (x ∷ filter (λ (h : Hold). h.number == n) xs) (filter (λ (h : Hold). h.number == n) xs))
    go true e more = (eq_yes x.number n e, more)
    go false e more = more

-- the names of a record's holds, sorted among all holds or by themselves
names_are : (a : Archive) (n : ℕ) → Once a → names_on n (sorted_holds a) ≡ hold_names a n
names_are a n once =
    let zs = filter (λ (h : Hold). h.number == n) a.holds in
    let by_name : Hold → Hold → Ordering = λ x y. slice_cmp nat_cmp x.name y.name in
    let by_both : Hold → Hold → Ordering = λ x y. hold_cmp (named_hold x) (named_hold y) in
    let total : IsTotalOrder by_name = on_total (λ (h : Hold). h.name) nat_list_cmp_total in
    ap (map name_of) (filter-sort_by hold_cmp named_total (is_on n) (map named_hold a.holds) (holds_apart a once)
    ∙ ap (sort_by hold_cmp) (filter-map (is_on n) named_hold a.holds) ∙ sort_by-map hold_cmp named_hold zs)
    ∙ map-map name_of named_hold (sort_by by_both zs)
    ∙ ap (map (λ (h : Hold). h.name)) (sort_same by_both by_name (λ (h : Hold). h.number ≡ n) total (same_record n) zs (all_on n a.holds))
    ∙ sym (sort_by-map (slice_cmp nat_cmp) (λ (h : Hold). h.name) zs)

-- each hold is on a record
holds_named : (a : Archive) → IsArchive a → AllByRecursion (λ h. is_on_any a.records h ≡ true) (sorted_holds a)
holds_named a is =
    let P : HoldEntry → Type 0 = λ h. is_on_any a.records h ≡ true in
    let each = all_weaker _ (λ (h : Hold). P (named_hold h))
    (λ h e. any_weaker (λ (r : Record). is_live r && has_number h.number r) (has_number h.number)
    (λ r both. (and_parts (is_live r) (has_number h.number r) both).1) a.records e) a.holds (recursion_from_All _ a.holds is.held) in
    recursion_from_All P (sorted_holds a)
    (All-permutation P (map named_hold a.holds) (sorted_holds a) (IsPermutation-sym (sorted_holds a) (map named_hold a.holds) (holds_permuted a))
    (All-from_recursion P (map named_hold a.holds) (all_map P named_hold a.holds each)))

-- ---- the holds of a page

in_from : (n k : ℕ) (rs : List Record) → n ≤ k → list_any (has_number k) rs ≡ true
    → list_any (has_number k) (filter (λ (r : Record). nat_le n r.number) rs) ≡ true
in_from n k [] low e = e
in_from n k (r ∷ rs) low e = go (has_number k r) (nat_le n r.number) refl refl e (in_from n k rs low)
  where
    kept : List Record
    kept = filter (λ (x : Record). nat_le n x.number) rs

    go : (b c : Bool) → has_number k r ≡ b → nat_le n r.number ≡ c → (b || list_any (has_number k) rs) ≡ true
        → (list_any (has_number k) rs ≡ true → list_any (has_number k) kept ≡ true)
        → list_any (has_number k) (cond c (r ∷ kept) kept) ≡ true
    go true true h low_too e more = or_left _ (list_any (has_number k) kept) h
    go true false h low_not e more =
        absurd (let same = eq_yes r.number k h in let high : nat_le n r.number ≡ true = grind (arith, nat_tests, low, same) in
        true≢false (sym high ∙ low_not))
    go false true h low_too e more = or_right (has_number k r) _ (more e)
    go false false h low_not e more = more e

not_above : (k : ℕ) (r : Record) (rs : List Record) → k ≤ r.number → AllByRecursion (Below r) rs → list_any (has_number k) rs ≡ true → ⊥
not_above k r rs low up e =
    from_any (has_number k) ⊥ rs e
    (all_weaker (Below r) (λ x. has_number k x ≡ true → ⊥) (λ x less h. let same = eq_yes x.number k h in omega (arith, same, less, low)) rs up)

in_taken : (k last : ℕ) (m : ℕ) (rs : List Record) → IsAscending Below rs → k ≤ last → list_any (has_number last) (take m rs) ≡ true
    → list_any (has_number k) rs ≡ true → list_any (has_number k) (take m rs) ≡ true
in_taken k last zero rs up low there e = absurd (true≢false (sym there))
in_taken k last (suc m) [] up low there e = e
in_taken k last (suc m) (r ∷ rs) up low there e = go (has_number k r) (has_number last r) refl refl e there (in_taken k last m rs up.1 low)
  where
    go : (b c : Bool) → has_number k r ≡ b → has_number last r ≡ c → (b || list_any (has_number k) rs) ≡ true
        → (c || list_any (has_number last) (take m rs)) ≡ true
        → (list_any (has_number last) (take m rs) ≡ true → list_any (has_number k) rs ≡ true → list_any (has_number k) (take m rs) ≡ true)
        → (has_number k r || list_any (has_number k) (take m rs)) ≡ true
    go true c h l e there more = or_left _ (list_any (has_number k) (take m rs)) h
    go false true h l e there more = absurd (not_above k r rs (let same = eq_yes r.number last l in omega (arith, same, low)) up.0 e)
    go false false h l e there more = or_right (has_number k r) _ (more there e)

-- the last of records whose numbers ascend
up_to_last : (rs : List Record) (last : Record) (i : ℕ) → IsAscending Below rs → i + 1 ≡ length rs → Some last ≡ slice_get rs i
    → AllByRecursion (λ (r : Record). r.number ≤ last.number) rs
up_to_last [] last i up long at = tt
up_to_last (x ∷ []) last zero up long at = let same : last ≡ x = cc in (subst (λ (y : Record). x.number ≤ y.number) (sym same) (omega arith), tt)
up_to_last (x ∷ []) last (suc i) up long at = absurd (omega arith)
up_to_last (x ∷ y ∷ rs) last zero up long at = absurd (omega arith)
up_to_last (x ∷ y ∷ rs) last (suc i) up long at =
    let more = up_to_last (y ∷ rs) last i up.1 (omega arith) at in
    let first = up.0.0 in
    (omega (arith, first, more.0), more)

last_there : (rs : List Record) (last : Record) (i : ℕ) → Some last ≡ slice_get rs i → list_any (has_number last.number) rs ≡ true
last_there [] last i at = absurd cc
last_there (x ∷ rs) last zero at = let same : last ≡ x = cc in
    or_left _ (list_any (has_number last.number) rs) (ap (λ (y : Record). has_number last.number y) (sym same) ∙ eq_itself last.number)
last_there (x ∷ rs) last (suc i) at = or_right (has_number last.number x) _ (last_there rs last i at)

from_low : (n : ℕ) (rs : List Record) → AllByRecursion (λ (r : Record). n ≤ r.number) (filter (λ (r : Record). nat_le n r.number) rs)
from_low n [] = tt
from_low n (r ∷ rs) = go (nat_le n r.number) refl (from_low n rs)
  where
    kept : List Record
    kept = filter (λ (x : Record). nat_le n x.number) rs

    go : (b : Bool) → nat_le n r.number ≡ b → AllByRecursion (λ (x : Record). n ≤ x.number) kept
        → AllByRecursion (λ (x : Record). n ≤ x.number) (cond b (r ∷ kept) kept)
    go true e more = (grind (arith, nat_tests, e), more)
    go false e more = more

between_is : (first last k : ℕ) → first ≤ k → k ≤ last → (int_le (pos first) (pos k) && int_le (pos k) (pos last)) ≡ true
between_is first last k low high =
    ap₂ ◌&&◌ (let a : int_le (pos first) (pos k) ≡ true = grind (arith, ints, low) in a) (let b : int_le (pos k) (pos last) ≡ true =
    grind (arith, ints, high) in b)

between_low : (first last k : ℕ) → (int_le (pos first) (pos k) && int_le (pos k) (pos last)) ≡ true → (first ≤ k) × (k ≤ last)
between_low first last k h = go (int_le (pos first) (pos k)) (int_le (pos k) (pos last)) refl refl h
  where
    go : (a b : Bool) → int_le (pos first) (pos k) ≡ a → int_le (pos k) (pos last) ≡ b → (a && b) ≡ true → (first ≤ k) × (k ≤ last)
    go true true x y h = (grind (arith, ints, x), grind (arith, ints, y))
    go true false x y h = absurd (true≢false (sym h))
    go false b x y h = absurd (true≢false (sym h))

both_ways : (a b : Bool) → (a ≡ true → b ≡ true) → (b ≡ true → a ≡ true) → a ≡ b
both_ways true b to back = sym (to refl)
both_ways false true to back = back refl
both_ways false false to back = refl

-- the holds on the records from the first number to the last one of a page are those on its records
pub between_are : (a : Archive) → IsArchive a → (from : ℕ) (rs : List Record) → IsPage a from rs → (last : Record)
    → Some last ≡ slice_get rs (length rs - 1)
    → filter (is_between from last.number) (sorted_holds a) ≡ filter (is_on_any rs) (sorted_holds a)
between_are a is from rs page last at =
    let ys = records_from a from in
    let up : IsAscending Below ys = ascending-filter _ (λ (r : Record). nat_le from r.number) a.records is.in_order in
    let m = page.most in
    let up_rs : IsAscending Below rs = subst (IsAscending Below) (sym page.is) (ascending_taken Below m ys up) in
    let low : AllByRecursion (λ (r : Record). from ≤ r.number) rs =
    subst (AllByRecursion (λ (r : Record). from ≤ r.number)) (sym page.is) (all_taken _ m ys (from_low from a.records)) in
    let there = last_there rs last (length rs - 1) at in
    let high = up_to_last rs last (length rs - 1) up_rs (long rs at) at in
    let on : (h : HoldEntry) → is_on_any a.records h ≡ true → is_between from last.number h ≡ is_on_any rs h =
    λ h named. both_ways (is_between from last.number h) (is_on_any rs h)
    (λ between.
    let ends = between_low from last.number h.number between in
    subst (λ l. list_any (has_number h.number) l ≡ true) (sym page.is)
    (in_taken h.number last.number m ys up ends.1 (subst (λ l. list_any (has_number last.number) l ≡ true) page.is there)
    (in_from from h.number a.records ends.0 named)))
    (λ found. between_is from last.number h.number
    (from_any (has_number h.number) (from ≤ h.number) rs found
    (all_weaker _ (λ (r : Record). has_number h.number r ≡ true → from ≤ h.number) (λ r le e. let same = eq_yes r.number h.number e in
    omega (arith, same, le)) rs low))
    (from_any (has_number h.number) (h.number ≤ last.number) rs found
    (all_weaker _ (λ (r : Record). has_number h.number r ≡ true → h.number ≤ last.number) (λ r le e. let same = eq_yes r.number h.number e in
    omega (arith, same, le)) rs high))) in
    filter_same_on (is_between from last.number) (is_on_any rs) (sorted_holds a)
    (all_weaker _ (λ h. is_between from last.number h ≡ is_on_any rs h) on (sorted_holds a) (holds_named a is))
  where
    long : (xs : List Record) → Some last ≡ slice_get xs (length xs - 1) → length xs - 1 + 1 ≡ length xs
    long [] at = absurd cc
    long (x ∷ xs) at = omega arith

-- ---- no hold on a page

not_positive : (k : ℕ) → nat_lt 0 k ≡ false → k ≤ 0
not_positive k h = grind (arith, nat_tests, h)

-- where no hold is counted for the records, no hold is on them
pub none_on : {V : Type 0} (f : V → Record) (a : Archive) (counts : ℕ → ℕ) → ((n : ℕ) → counts n ≡ hold_count a n) → (vs : List V)
    → list_any (λ v. nat_lt 0 (counts (f v).number)) vs ≡ false
    → [] ≡ filter (is_on_any (map f vs)) (sorted_holds a)
none_on f a counts are vs none =
    let zero_each = none_from_any (λ v. nat_lt 0 (counts (f v).number)) vs none in
    let off : AllByRecursion (λ (r : Record). list_any (λ (h : Hold). h.number == r.number) a.holds ≡ false) (map f vs) =
    all_map _ f vs (all_weaker _ (λ v. list_any (λ (h : Hold). h.number == (f v).number) a.holds ≡ false)
    (λ v e. let count = are (f v).number in
    free_if (λ (h : Hold). h.number == (f v).number) a.holds (let low = not_positive (counts (f v).number) e in omega (arith, count, low))) vs
    zero_each) in
    let P : HoldEntry → Type 0 = λ h. is_on_any (map f vs) h ≡ false in
    let each : AllByRecursion (λ (h : Hold). P (named_hold h)) a.holds = unheld (map f vs) a.holds off in
    sym (filter_none (is_on_any (map f vs)) (sorted_holds a)
    (recursion_from_All P (sorted_holds a)
    (All-permutation P (map named_hold a.holds) (sorted_holds a) (IsPermutation-sym (sorted_holds a) (map named_hold a.holds) (holds_permuted a))
    (All-from_recursion P (map named_hold a.holds) (all_map P named_hold a.holds each)))))
  where
    none_of : (r : Record) (hs : List Hold) → list_any (λ (h : Hold). h.number == r.number) hs ≡ false
        → AllByRecursion (λ (h : Hold). has_number h.number r ≡ false) hs
    none_of r hs e =
        all_weaker _ (λ (h : Hold). has_number h.number r ≡ false) (λ h no. eq_turned h.number r.number false no) hs
        (none_from_any (λ (h : Hold). h.number == r.number) hs e)

    both : (hs : List Hold) (r : Record) (rs : List Record) → AllByRecursion (λ (h : Hold). has_number h.number r ≡ false) hs
        → AllByRecursion (λ (h : Hold). is_on_any rs (named_hold h) ≡ false) hs
        → AllByRecursion (λ (h : Hold). is_on_any (r ∷ rs) (named_hold h) ≡ false) hs
    both [] r rs x y = tt
    both (h ∷ hs) r rs x y = (ap₂ ◌||◌ x.0 y.0, both hs r rs x.1 y.1)

    nothing : (hs : List Hold) → AllByRecursion (λ (h : Hold). is_on_any [] (named_hold h) ≡ false) hs
    nothing [] = tt
    nothing (h ∷ hs) = (refl, nothing hs)

    unheld : (rs : List Record) (hs : List Hold) → AllByRecursion (λ (r : Record). list_any (λ (h : Hold). h.number == r.number) hs ≡ false) rs
        → AllByRecursion (λ (h : Hold). is_on_any rs (named_hold h) ≡ false) hs
    unheld [] hs off = nothing hs
    unheld (r ∷ rs) hs off = both hs r rs (none_of r hs off.0) (unheld rs hs off.1)

-- ---- the page

all_there : (rs : List Record) → AllByRecursion (λ (r : Record). list_any (has_number r.number) rs ≡ true) rs
all_there [] = tt
all_there (r ∷ rs) = (
  or_left _ (list_any (has_number r.number) rs) (eq_itself r.number),
  all_weaker _ (λ (q : Record). list_any (has_number q.number) (r ∷ rs) ≡ true) (λ q e. or_right (has_number q.number r) _ e) rs (all_there rs),
)

only_kept : {X : Type 0} (p : X → Bool) (xs : List X) → AllByRecursion (λ x. p x ≡ true) (filter p xs)
only_kept p [] = tt
only_kept p (x ∷ xs) = go (p x) refl (only_kept p xs)
  where
    go : (b : Bool) → p x ≡ b → AllByRecursion (λ y. p y ≡ true) (filter p xs)
        → AllByRecursion (λ y. p y ≡ true) (cond b (x ∷ filter p xs) (filter p xs))
    go true e more = (e, more)
    go false e more = more

-- what passes p passes q, so q keeps all that p keeps
on_kept : (rs : List Record) (r : Record) → list_any (has_number r.number) rs ≡ true → (h : HoldEntry) → is_on r.number h ≡ true
    → is_on_any rs h ≡ true
on_kept rs r there h e = subst (λ n. list_any (has_number n) rs ≡ true) (sym (eq_yes h.number r.number e)) there

-- THE ENTRIES OF A PAGE: its records beside their holds
pub page_is : (a : Archive) → IsArchive a → (from : ℕ) (rs : List Record) → IsPage a from rs → (hs : List HoldEntry) → AreHoldsOf a rs hs
    → listed_beside a.plan hs rs ≡ map (entry_of a) rs
page_is a is from rs page hs are =
    let up : IsAscending Below rs =
    subst (IsAscending Below) (sym page.is)
    (ascending_taken Below page.most (records_from a from) (ascending-filter _ (λ (r : Record). nat_le from r.number) a.records is.in_order)) in
    let all = sorted_holds a in
    let kept = filter (is_on_any rs) all in
    ap (λ l. listed_beside a.plan l rs) are
    ∙ beside_is a.plan rs kept up (ascending-filter _ (is_on_any rs) all (rise_sorted a is.once)) (only_kept (is_on_any rs) all)
    ∙ map_same_on (λ (r : Record). listed a.plan r (names_on r.number kept)) (entry_of a) rs
    (all_weaker _ (λ (r : Record). listed a.plan r (names_on r.number kept) ≡ entry_of a r)
    (λ r there. ap (listed a.plan r)
    (ap (map name_of) (filter-filter (is_on r.number) (is_on_any rs) (on_kept rs r there) all) ∙ names_are a r.number is.once)) rs (all_there rs))

-- ---- how many

room : (lo : ℕ) (rs : List Record) → IsAscending Below rs → AllByRecursion (λ (r : Record). (lo ≤ r.number) × (r.number < 2 ^ 32)) rs → lo ≤ 2 ^ 32
    → length rs + lo ≤ 2 ^ 32
room lo [] up h low = omega (arith, low)
room lo (r ∷ rs) up h low =
    let one = h.0 in
    let more = room (r.number + 1) rs up.1 (higher rs up.0 h.1) (omega (arith, one.1)) in
    omega (arith, more, one.0)
  where
    higher : (xs : List Record) → AllByRecursion (Below r) xs → AllByRecursion (λ (x : Record). (lo ≤ x.number) × (x.number < 2 ^ 32)) xs
        → AllByRecursion (λ (x : Record). (r.number + 1 ≤ x.number) × (x.number < 2 ^ 32)) xs
    higher [] b h = tt
    higher (x ∷ xs) b h = ((let less = b.0 in omega (arith, less), h.0.1), higher xs b.1 h.1)

-- an archive has at most 2^32 - 1 records, so that limit takes all that a greater one takes
pub limited_is : (a : Archive) → IsArchive a → (from most : ℕ) → take (min most (2 ^ 32 - 1)) (records_from a from) ≡ take most (records_from a from)
limited_is a is from most =
    let ys = records_from a from in
    let each = recursion_from_All (IsRecord a) a.records is.records in
    let ranged : AllByRecursion (λ (r : Record). (1 ≤ r.number) × (r.number < 2 ^ 32)) a.records =
    all_weaker _ (λ (r : Record). (1 ≤ r.number) × (r.number < 2 ^ 32)) (λ r one. one.number) a.records each in
    let few = room 1 ys (ascending-filter _ (λ (r : Record). nat_le from r.number) a.records is.in_order)
    (all-filter _ (λ (r : Record). nat_le from r.number) a.records ranged) (omega arith) in
    let least : min (min most (2 ^ 32 - 1)) (length ys) ≡ min most (length ys) = omega (arith, few) in
    sym (take_min (min most (2 ^ 32 - 1)) ys) ∙ ap (λ n. take n ys) least ∙ take_min most ys
