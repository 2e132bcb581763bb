-- Indexes beside lists.
use Rattle.std.proofs.Common.{◌≡◌, ◌≤◌, ◌<◌, ◌+◌, ◌-◌, ◌==◌, ◌&&◌, ◌||◌, ℕ, zero, suc, Bool, true, false, not, cond, if◌then◌else◌}
use Rattle.std.proofs.Common.{List, [], ◌∷◌, ◌++◌, map, find, length, set, get_or, Option, Some, None, option_map, option_and_then}
use Rattle.std.proofs.Common.{refl, sym, ap, subst, ◌∙◌, arith, inl, inr}
use Rattle.std.proofs.lemmas.Bool.{cases_Bool}
use Rattle.std.proofs.lemmas.Bool.Decides.{nat_tests}
use Rattle.std.specs.List.{list_any}
use Rattle.std.specs.Prelude.{slice_get, nat_lt}
use Rattle.std.specs.Ordering.{nat_cmp}
use Rattle.std.specs.BTreeMap.{get}
use Rattle.record_judge.specs.Counts.{count_at, only_at, tally}
use Rattle.record_judge.specs.Indexes.{IsNoted, IsRecordIndex, first_of, first_or, has_live, has_the_number, place_at}
use Rattle.record_judge.specs.Sealed.{marked}
use Rattle.record_judge.specs.declared.record_index.RecordIndex.{RecordIndex}
use Rattle.record_judge.specs.declared.sealed.SealedRecord.{SealedRecord}

-- ---- one element more

plus_assoc : (a b c : ℕ) → a + (b + c) ≡ (a + b) + c
plus_assoc a b c = omega arith

plus_zero : (a : ℕ) → a + 0 ≡ 0 + a
plus_zero a = omega arith

pub tally_snoc : {X : Type 0} (p : X → Bool) (xs : List X) (x : X) → tally p (xs ++ x ∷ []) ≡ tally p xs + (if p x then 1 else 0)
tally_snoc p [] x = plus_zero (if p x then 1 else 0)
tally_snoc p (y ∷ ys) x =
    ap (λ k. cond {A = ℕ} (p y) 1 0 + k) (tally_snoc p ys x) ∙ plus_assoc (cond {A = ℕ} (p y) 1 0) (tally p ys) (cond {A = ℕ} (p x) 1 0)

-- the place of an element that comes behind n others, if it passes
abbrev last_place : Bool → ℕ → Option ℕ
last_place b n = if b then Some n else None

first_snoc : {X : Type 0} (p : X → Bool) (xs : List X) (x : X) → first_of p (xs ++ x ∷ []) ≡ first_or (first_of p xs) (last_place (p x) (length xs))
first_snoc p [] x = go (p x)
  where
    go : (b : Bool) → cond b (Some 0) None ≡ last_place b 0
    go true = refl
    go false = refl
first_snoc p (y ∷ ys) x = go (p y) (first_snoc p ys x)
  where
    shift : (o : Option ℕ) (b : Bool) (n : ℕ)
        → option_map (λ i. suc i) (first_or o (last_place b n)) ≡ first_or (option_map (λ i. suc i) o) (last_place b (suc n))
    shift None true n = refl
    shift None false n = refl
    shift (Some i) b n = refl

    go : (b : Bool) → first_of p (ys ++ x ∷ []) ≡ first_or (first_of p ys) (last_place (p x) (length ys))
        → cond b (Some 0) (option_map (λ i. suc i) (first_of p (ys ++ x ∷ [])))
        ≡ first_or (cond b (Some 0) (option_map (λ i. suc i) (first_of p ys))) (last_place (p x) (suc (length ys)))
    go true h = refl
    go false h = ap (option_map (λ i. suc i)) h ∙ shift (first_of p ys) (p x) (length ys)

-- what is found stands at the first place
pub found_first : {X : Type 0} (p : X → Bool) (xs : List X) → find p xs ≡ option_and_then (slice_get xs) (first_of p xs)
found_first p [] = refl
found_first p (x ∷ xs) = go (p x) (found_first p xs)
  where
    shift : (o : Option ℕ) → option_and_then (slice_get xs) o ≡ option_and_then (slice_get (x ∷ xs)) (option_map (λ i. suc i) o)
    shift None = refl
    shift (Some i) = refl

    go : (b : Bool) → find p xs ≡ option_and_then (slice_get xs) (first_of p xs)
        → cond b (Some x) (find p xs) ≡ option_and_then (slice_get (x ∷ xs)) (cond b (Some 0) (option_map (λ i. suc i) (first_of p xs)))
    go true h = refl
    go false h = h ∙ shift (first_of p xs)

pub same_sides : (a b : ℕ) → (a == b) ≡ (b == a)
same_sides a b = grind (arith, nat_tests)

weights : (b d : Bool) → cond b (cond {A = ℕ} d 0 1) 0 ≡ cond (not d && b) 1 0
weights true true = refl
weights true false = refl
weights false true = refl
weights false false = refl

-- a record more, and its note
pub noted : (old new : RecordIndex) (rows : List SealedRecord) (r : SealedRecord) (place : ℕ) → length rows ≡ place → IsNoted r place old new
    → IsRecordIndex old rows → IsRecordIndex new (rows ++ r ∷ [])
noted old new rows r place is note kept = record {
  first = λ q. note.first q ∙ ap (λ o. first_or o (place_at r.number place q)) (kept.first q)
      ∙ ap (λ b. first_or (first_of (has_the_number q) rows) (last_place b place)) (same_sides q r.number)
      ∙ ap (λ n. first_or (first_of (has_the_number q) rows) (last_place (r.number == q) n)) (sym is)
      ∙ sym (first_snoc (has_the_number q) rows r);
  numbers = λ q. note.numbers q ∙ ap (λ n. n + only_at r.number 1 q) (kept.numbers q)
      ∙ ap (λ b. tally (has_the_number q) rows + cond {A = ℕ} b 1 0) (same_sides q r.number)
      ∙ sym (tally_snoc (has_the_number q) rows r);
  lives = λ q. note.lives q ∙ ap (λ n. n + only_at r.message (if r.destroyed then 0 else 1) q) (kept.lives q)
      ∙ ap (λ b. tally (has_live q) rows + cond {A = ℕ} b (cond {A = ℕ} r.destroyed 0 1) 0) (same_sides q r.message)
      ∙ ap (λ n. tally (has_live q) rows + n) (weights (r.message == q) r.destroyed)
      ∙ sym (tally_snoc (has_live q) rows r);
}

-- ---- an element replaced

swap_ends : (a b t : ℕ) → (a + t) + b ≡ (b + t) + a
swap_ends a b t = omega arith

add_front : (a s g t y : ℕ) → s + g ≡ t + y → (a + s) + g ≡ (a + t) + y
add_front a s g t y h = omega (arith, h)

tally_set : {X : Type 0} (p : X → Bool) (xs : List X) (i : ℕ) (y d : X) → i < length xs
    → tally p (set xs i y) + (if p (get_or xs i d) then 1 else 0) ≡ tally p xs + (if p y then 1 else 0)
tally_set p [] i y d lt = absurd (omega (arith, lt))
tally_set p (x ∷ xs) zero y d lt = swap_ends (cond {A = ℕ} (p y) 1 0) (cond {A = ℕ} (p x) 1 0) (tally p xs)
tally_set p (x ∷ xs) (suc i) y d lt =
    add_front (cond {A = ℕ} (p x) 1 0) (tally p (set xs i y)) (cond {A = ℕ} (p (get_or xs i d)) 1 0) (tally p xs) (cond {A = ℕ} (p y) 1 0)
    (tally_set p xs i y d (omega (arith, lt)))

first_set : {X : Type 0} (p : X → Bool) (xs : List X) (i : ℕ) (y d : X) → i < length xs → p y ≡ p (get_or xs i d)
    → first_of p (set xs i y) ≡ first_of p xs
first_set p [] i y d lt same = absurd (omega (arith, lt))
first_set p (x ∷ xs) zero y d lt same = ap (λ b. cond b (Some 0) (option_map (λ j. suc j) (first_of p xs))) same
first_set p (x ∷ xs) (suc i) y d lt same =
    ap (λ o. cond (p x) (Some 0) (option_map (λ j. suc j) o)) (first_set p xs i y d (omega (arith, lt)) same)

-- ---- records that are marked

marked_number : (n : ℕ) (r : SealedRecord) → (marked n r).number ≡ r.number
marked_number n r = go (r.number == n)
  where
    go : (b : Bool) → (cond b (record r { destroyed = true }) r).number ≡ r.number
    go true = refl
    go false = refl

marked_live : (n q : ℕ) (r : SealedRecord) → has_live q (marked n r) ≡ cond (r.number == n) false (has_live q r)
marked_live n q r = go (r.number == n)
  where
    go : (b : Bool) → has_live q (cond b (record r { destroyed = true }) r) ≡ cond b false (has_live q r)
    go true = refl
    go false = refl

less : (b1 b2 b3 : Bool) (s t : ℕ) → s + cond {A = ℕ} (not b2 && b3) 1 0 ≡ t + cond {A = ℕ} (cond b1 false (not b2 && b3)) 1 0
    → t - cond {A = ℕ} b3 (cond {A = ℕ} (b1 && not b2) 1 0) 0 ≡ s
less true true true s t h = let k : s + 0 ≡ t + 0 = h in omega (arith, k)
less true true false s t h = let k : s + 0 ≡ t + 0 = h in omega (arith, k)
less true false true s t h = let k : s + 1 ≡ t + 0 = h in omega (arith, k)
less true false false s t h = let k : s + 0 ≡ t + 0 = h in omega (arith, k)
less false true true s t h = let k : s + 0 ≡ t + 0 = h in omega (arith, k)
less false true false s t h = let k : s + 0 ≡ t + 0 = h in omega (arith, k)
less false false true s t h = let k : s + 1 ≡ t + 1 = h in omega (arith, k)
less false false false s t h = let k : s + 0 ≡ t + 0 = h in omega (arith, k)

-- the index after one record is marked
pub mark_kept : (old new : RecordIndex) (rows after : List SealedRecord) (i n : ℕ) (d : SealedRecord) → i < length rows
    → new.first ≡ old.first → new.numbers ≡ old.numbers
    → ((q : ℕ) → count_at new.lives q ≡ count_at old.lives q
    - only_at (get_or rows i d).message (if (get_or rows i d).number == n && not (get_or rows i d).destroyed then 1 else 0) q)
    → after ≡ set rows i (marked n (get_or rows i d)) → IsRecordIndex old rows → IsRecordIndex new after
mark_kept old new rows after i n d lt first numbers lives is kept =
    let r : SealedRecord = get_or rows i d in
    subst (IsRecordIndex new) (sym is) (record {
      first = λ q. ap (λ m. get nat_cmp m q) first ∙ kept.first q
          ∙ sym (first_set (has_the_number q) rows i (marked n r) d lt (ap (λ k. k == q) (marked_number n r)));
      numbers = λ q. ap (λ m. count_at m q) numbers ∙ kept.numbers q ∙ same_count q;
      lives = λ q. lives q ∙ ap (λ t. t - only_at r.message (if r.number == n && not r.destroyed then 1 else 0) q) (kept.lives q)
          ∙ ap (λ b. tally (has_live q) rows - cond {A = ℕ} b (if r.number == n && not r.destroyed then 1 else 0) 0) (same_sides q r.message)
          ∙ less (r.number == n) r.destroyed (r.message == q) (tally (has_live q) (set rows i (marked n r))) (tally (has_live q) rows)
          (tally_set (has_live q) rows i (marked n r) d lt
          ∙ ap (λ b. tally (has_live q) rows + cond {A = ℕ} b 1 0) (marked_live n q r));
    })
  where
    cancel : (s t k : ℕ) → s + k ≡ t + k → t ≡ s
    cancel s t k h = omega (arith, h)

    same_count : (q : ℕ) → tally (has_the_number q) rows ≡ tally (has_the_number q) (set rows i (marked n (get_or rows i d)))
    same_count q =
        cancel _ _ (cond {A = ℕ} ((get_or rows i d).number == q) 1 0) (tally_set (has_the_number q) rows i (marked n (get_or rows i d)) d lt
        ∙ ap (λ k. tally (has_the_number q) rows + cond {A = ℕ} (k == q) 1 0) (marked_number n (get_or rows i d)))

unmarked : (n : ℕ) (rs : List SealedRecord) → tally (has_the_number n) rs ≡ 0 → map (marked n) rs ≡ rs
unmarked n [] h = refl
unmarked n (r ∷ rs) h = go (r.number == n) h (unmarked n rs)
  where
    go : (b : Bool) → cond {A = ℕ} b 1 0 + tally (has_the_number n) rs ≡ 0
        → (tally (has_the_number n) rs ≡ 0 → map (marked n) rs ≡ rs)
        → (cond b (record r { destroyed = true }) r) ∷ map (marked n) rs ≡ r ∷ rs
    go true e more = let k : 1 + tally (has_the_number n) rs ≡ 0 = e in absurd (omega (arith, k))
    go false e more = let k : 0 + tally (has_the_number n) rs ≡ 0 = e in ap (λ l. r ∷ l) (more (omega (arith, k)))

only_here : (n : ℕ) (rs : List SealedRecord) (i : ℕ) (d : SealedRecord) → tally (has_the_number n) rs ≡ 1 → first_of (has_the_number n) rs ≡ Some i
    → set rs i (marked n (get_or rs i d)) ≡ map (marked n) rs
only_here n [] i d one at = absurd (let k = one in omega (arith, k))
only_here n (r ∷ rs) i d one at = go (r.number == n) refl one at (λ j. only_here n rs j d)
  where
    later : (o : Option ℕ) → first_of (has_the_number n) rs ≡ o → option_map (λ j. suc j) o ≡ Some i → tally (has_the_number n) rs ≡ 1
        → (r.number == n) ≡ false
        → ((j : ℕ) → tally (has_the_number n) rs ≡ 1 → first_of (has_the_number n) rs ≡ Some j
        → set rs j (marked n (get_or rs j d)) ≡ map (marked n) rs)
        → set (r ∷ rs) i (marked n (get_or (r ∷ rs) i d)) ≡ map (marked n) (r ∷ rs)
    later None first e one other again = absurd (let x = e in cc)
    later (Some j) first e one other again =
        let same : suc j ≡ i = cc in
        let kept : marked n r ≡ r = ap (λ b. cond b (record r { destroyed = true }) r) other in
        subst (λ k. set (r ∷ rs) k (marked n (get_or (r ∷ rs) k d)) ≡ map (marked n) (r ∷ rs)) same
        (ap (λ l. r ∷ l) (again j one first) ∙ ap (λ x. x ∷ map (marked n) rs) (sym kept))

    go : (b : Bool) → (r.number == n) ≡ b → cond {A = ℕ} b 1 0 + tally (has_the_number n) rs ≡ 1
        → cond b (Some 0) (option_map (λ j. suc j) (first_of (has_the_number n) rs)) ≡ Some i
        → ((j : ℕ) → tally (has_the_number n) rs ≡ 1 → first_of (has_the_number n) rs ≡ Some j
        → set rs j (marked n (get_or rs j d)) ≡ map (marked n) rs)
        → set (r ∷ rs) i (marked n (get_or (r ∷ rs) i d)) ≡ map (marked n) (r ∷ rs)
    go true is one at again =
        let k : 1 + tally (has_the_number n) rs ≡ 1 = one in
        let same : 0 ≡ i = cc in
        subst (λ k. set (r ∷ rs) k (marked n (get_or (r ∷ rs) k d)) ≡ map (marked n) (r ∷ rs)) same
        (ap (λ l. marked n r ∷ l) (sym (unmarked n rs (omega (arith, k)))))
    go false is one at again =
        let k : 0 + tally (has_the_number n) rs ≡ 1 = one in
        later (first_of (has_the_number n) rs) refl at (omega (arith, k)) is again

-- the only record with a number is marked
pub only_marked : (index : RecordIndex) (rows after : List SealedRecord) (i n : ℕ) → IsRecordIndex index rows
    → get nat_cmp index.first n ≡ Some i → count_at index.numbers n ≡ 1
    → ((d : SealedRecord) → after ≡ set rows i (marked n (get_or rows i d))) → after ≡ map (marked n) rows
only_marked index [] after i n kept first one is = absurd (let k : 0 ≡ 1 = sym (kept.numbers n) ∙ one in omega (arith, k))
only_marked index (r ∷ rs) after i n kept first one is =
    is r ∙ only_here n (r ∷ rs) i r (sym (kept.numbers n) ∙ one) (sym (kept.first n) ∙ first)

-- ---- whether a message is shared

lt_more : (t : ℕ) → nat_lt 0 (1 + t) ≡ true
lt_more t = grind (arith, nat_tests)

pub any_tally : {X : Type 0} (p : X → Bool) (xs : List X) → list_any p xs ≡ nat_lt 0 (tally p xs)
any_tally p [] = refl
any_tally p (x ∷ xs) = go (p x) (any_tally p xs)
  where
    go : (b : Bool) → list_any p xs ≡ nat_lt 0 (tally p xs) → (b || list_any p xs) ≡ nat_lt 0 (cond {A = ℕ} b 1 0 + tally p xs)
    go true h = sym (lt_more (tally p xs))
    go false h = h ∙ ap (nat_lt 0) (let e : tally p xs ≡ 0 + tally p xs = omega arith in e)

and_false : (a b : Bool) → (a && (b && false)) ≡ false
and_false true true = refl
and_false true false = refl
and_false false b = refl

and_true : (b : Bool) → (b && true) ≡ b
and_true true = refl
and_true false = refl

-- a live record of the message with another number
abbrev pub has_other : (n m : ℕ) → SealedRecord → Bool
has_other n m r = not r.destroyed && ((r.message == m) && not (r.number == n))

other_marked : (n m : ℕ) (r : SealedRecord) → has_other n m r ≡ has_live m (marked n r)
other_marked n m r = go (r.number == n) ∙ sym (marked_live n m r)
  where
    go : (b : Bool) → (not r.destroyed && ((r.message == m) && not b)) ≡ cond b false (has_live m r)
    go true = and_false (not r.destroyed) (r.message == m)
    go false = ap (λ x. not r.destroyed && x) (and_true (r.message == m))

any_other : (n m : ℕ) (rs : List SealedRecord) → list_any (has_other n m) rs ≡ list_any (has_live m) (map (marked n) rs)
any_other n m [] = refl
any_other n m (r ∷ rs) = λ i. other_marked n m r i || any_other n m rs i

-- after the records are marked, the message has a live one exactly where another record shared it
pub still_live : (index : RecordIndex) (rows : List SealedRecord) (n m : ℕ) → IsRecordIndex index (map (marked n) rows)
    → nat_lt 0 (count_at index.lives m) ≡ list_any (has_other n m) rows
still_live index rows n m kept = ap (nat_lt 0) (kept.lives m) ∙ sym (any_tally (has_live m) (map (marked n) rows)) ∙ sym (any_other n m rows)
