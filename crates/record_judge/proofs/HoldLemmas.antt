-- The index beside the holds.
use Rattle.std.proofs.Common.{◌≡◌, ◌+◌, ◌-◌, ◌==◌, ◌&&◌, ◌||◌, ℕ, Bool, true, false, not, cond, if◌then◌else◌, List, [], ◌∷◌, ◌++◌, filter}
use Rattle.std.proofs.Common.{Option, Some, None, unwrap_or, refl, sym, ap, subst, ◌∙◌, arith, Ordering, Less, Equal, Greater, is_eq}
use Rattle.std.proofs.lemmas.Bool.Decides.{nat_tests}
use Rattle.std.proofs.lemmas.Map.Text.{is_eq-slice_cmp}
use Rattle.std.proofs.lemmas.Slice.Eq.{bytes_eq-Decides}
use Rattle.std.specs.Ordering.{nat_cmp, ordering_then}
use Rattle.std.specs.Cmp.Lexicographic.{slice_cmp}
use Rattle.std.specs.BTreeMap.{get, get_by}
use Rattle.std.specs.Str.{bytes_eq}
use Rattle.record_judge.specs.Counts.{count_at, only_at, tally}
use Rattle.record_judge.specs.Holds.{Key, IsHoldIndex, IsHoldNoted, key_cmp, is_key, named_at, is_hold_of, is_hold_on}
use Rattle.record_judge.specs.declared.hold_counts.HoldCounts.{HoldCounts}
use Rattle.record_judge.specs.declared.hold_index.HoldIndex.{HoldIndex}
use Rattle.record_judge.specs.declared.sealed.NamedHold.{NamedHold}
use Rattle.record_judge.proofs.IndexLemmas.{same_sides, tally_snoc}
use Rattle.record_judge.proofs.RemovalLemmas.{others, none_of, all_of, some_of}

-- ---- keys

both_equal : (a b : Ordering) → is_eq (ordering_then a b) ≡ (is_eq a && is_eq b)
both_equal Less b = refl
both_equal Equal b = refl
both_equal Greater b = refl

equal_numbers : (a b : ℕ) → is_eq (nat_cmp a b) ≡ (a == b)
equal_numbers a b = grind (arith, nat_tests)

key_is : (k q : Key) → is_eq (key_cmp k q) ≡ is_key k q
key_is k q =
    both_equal (slice_cmp nat_cmp k.0.items q.0.items) (nat_cmp k.1 q.1)
    ∙ ap (λ b. b && is_eq (nat_cmp k.1 q.1)) (is_eq-slice_cmp k.0.items q.0.items)
    ∙ ap (λ b. bytes_eq k.0.items q.0.items && b) (equal_numbers k.1 q.1)

left_true : (a b : Bool) → (a && b) ≡ true → a ≡ true
left_true true b h = refl
left_true false b h = h

right_true : (a b : Bool) → (a && b) ≡ true → b ≡ true
right_true true b h = h
right_true false b h = absurd (let x = h in cc)

same_name : (k q : Key) → is_key k q ≡ true → k.0.items ≡ q.0.items
same_name k q is = (bytes_eq-Decides k.0.items q.0.items).0 (left_true (bytes_eq k.0.items q.0.items) (k.1 == q.1) is)

same_record : (k q : Key) → is_key k q ≡ true → k.1 ≡ q.1
same_record k q is = let h = right_true (bytes_eq k.0.items q.0.items) (k.1 == q.1) is in grind (arith, nat_tests, h)

-- the count of a name on a record, whatever vector has the name
count_by_parts : HoldCounts → List ℕ → ℕ → ℕ
count_by_parts c name n =
    unwrap_or (get_by (λ (e : Key). ordering_then (slice_cmp nat_cmp name e.0.items) (nat_cmp n e.1)) c.counts) 0

same_count : (c : HoldCounts) (k q : Key) → is_key k q ≡ true → named_at c k ≡ named_at c q
unfolding count_by_parts
same_count c k q is = λ i. count_by_parts c (same_name k q is i) (same_record k q is i)

pub added : (old new : HoldCounts) (k q : Key) (sum : ℕ) → sum ≡ named_at old k + 1
    → get key_cmp new.counts q ≡ cond (is_eq (key_cmp k q)) (Some sum) (get key_cmp old.counts q)
    → named_at new q ≡ named_at old q + (if is_key k q then 1 else 0)
added old new k q sum is at =
    ap (λ o. unwrap_or o 0) (at ∙ ap (λ b. cond b (Some sum) (get key_cmp old.counts q)) (key_is k q)) ∙ go (is_key k q) refl
  where
    go : (b : Bool) → is_key k q ≡ b → unwrap_or (cond b (Some sum) (get key_cmp old.counts q)) 0 ≡ named_at old q + cond {A = ℕ} b 1 0
    go true same = is ∙ ap (λ n. n + 1) (same_count old k q same)
    go false other = let e : named_at old q ≡ named_at old q + 0 = omega arith in e

pub forgotten : (old new : HoldCounts) (k q : Key) → get key_cmp new.counts q ≡ cond (is_eq (key_cmp k q)) None (get key_cmp old.counts q)
    → named_at new q ≡ (if is_key k q then 0 else named_at old q)
forgotten old new k q at =
    ap (λ o. unwrap_or o 0) (at ∙ ap (λ b. cond b None (get key_cmp old.counts q)) (key_is k q)) ∙ go (is_key k q)
  where
    go : (b : Bool) → unwrap_or (cond b None (get key_cmp old.counts q)) 0 ≡ cond b 0 (named_at old q)
    go true = refl
    go false = refl

-- ---- a hold more

pub hold_noted : (old new : HoldIndex) (rows : List NamedHold) (h : NamedHold) (key : Key) → key.0.items ≡ h.name.items → key.1 ≡ h.number
    → IsHoldNoted key old new → IsHoldIndex old rows → IsHoldIndex new (rows ++ h ∷ [])
hold_noted old new rows h key name number note kept = record {
  records = λ q. note.records q ∙ ap (λ n. n + only_at key.1 1 q) (kept.records q)
      ∙ ap (λ n. tally (is_hold_on q) rows + only_at n 1 q) number
      ∙ ap (λ b. tally (is_hold_on q) rows + cond {A = ℕ} b 1 0) (same_sides q h.number) ∙ sym (tally_snoc (is_hold_on q) rows h);
  names = λ k. note.names k ∙ ap (λ n. n + cond {A = ℕ} (is_key key k) 1 0) (kept.names k)
      ∙ (λ i. tally (is_hold_of k.0.items k.1) rows + cond {A = ℕ} (bytes_eq (name i) k.0.items && (number i == k.1)) 1 0)
      ∙ sym (tally_snoc (is_hold_of k.0.items k.1) rows h);
}

-- ---- holds that are gone

on_record : (name : List ℕ) (n : ℕ) (h : NamedHold) → is_hold_of name n h ≡ true → is_hold_on n h ≡ true
on_record name n h is = right_true (bytes_eq h.name.items name) (h.number == n) is

off_record : (name : List ℕ) (n q : ℕ) → (q == n) ≡ false → (h : NamedHold) → is_hold_of name n h ≡ true → is_hold_on q h ≡ false
off_record name n q other h is = let on = on_record name n h is in grind (arith, nat_tests, on, other)

-- a hold of one key is of no other
apart : (key k : Key) → is_key key k ≡ false → (h : NamedHold) → is_hold_of key.0.items key.1 h ≡ true → is_hold_of k.0.items k.1 h ≡ false
apart key k other h is = go (is_hold_of k.0.items k.1 h) refl
  where
    name : h.name.items ≡ key.0.items
    name = (bytes_eq-Decides h.name.items key.0.items).0 (left_true (bytes_eq h.name.items key.0.items) (h.number == key.1) is)

    number : h.number ≡ key.1
    number = let on = right_true (bytes_eq h.name.items key.0.items) (h.number == key.1) is in grind (arith, nat_tests, on)

    go : (b : Bool) → is_hold_of k.0.items k.1 h ≡ b → b ≡ false
    go false e = refl
    go true e = sym e ∙ (λ i. bytes_eq (name i) k.0.items && (number i == k.1)) ∙ other

pub left_holds : (old new : HoldIndex) (key : Key) (count : ℕ) (rows after : List NamedHold) → IsHoldIndex old rows
    → count ≡ named_at old.names key
    → ((q : ℕ) → count_at new.records q ≡ count_at old.records q - only_at key.1 count q)
    → ((k : Key) → named_at new.names k ≡ (if is_key key k then 0 else named_at old.names k))
    → (count ≡ tally (is_hold_of key.0.items key.1) rows → after ≡ filter (λ h. not (is_hold_of key.0.items key.1 h)) rows)
    → IsHoldIndex new after
left_holds old new key count rows after kept is less gone left =
    let all : count ≡ tally (is_hold_of key.0.items key.1) rows = is ∙ kept.names key in
    subst (IsHoldIndex new) (sym (left all)) (record {
      records = λ q. less q ∙ record_step q (q == key.1) refl all;
      names = λ k. gone k ∙ name_step k (is_key key k) refl;
    })
  where
    p : NamedHold → Bool
    p = is_hold_of key.0.items key.1

    record_step : (q : ℕ) (b : Bool) → (q == key.1) ≡ b → count ≡ tally (is_hold_of key.0.items key.1) rows
        → count_at old.records q - cond {A = ℕ} b count 0 ≡ tally (is_hold_on q) (others (is_hold_of key.0.items key.1) rows)
    record_step q true here all =
        let same : q ≡ key.1 = grind (arith, nat_tests, here) in
        let whole : tally (is_hold_on key.1) (others (is_hold_of key.0.items key.1) rows) + tally (is_hold_of key.0.items key.1) rows
        ≡ tally (is_hold_on key.1) rows = some_of (is_hold_of key.0.items key.1) (is_hold_on key.1) (on_record key.0.items key.1) rows in
        let at : count_at old.records key.1 ≡ tally (is_hold_on key.1) rows = kept.records key.1 in
        ap (λ k. count_at old.records k - count) same
        ∙ (let e : count_at old.records key.1 - count ≡ tally (is_hold_on key.1) (others (is_hold_of key.0.items key.1) rows) =
        omega (arith, whole, at, all) in e)
        ∙ sym (ap (λ k. tally (is_hold_on k) (others (is_hold_of key.0.items key.1) rows)) same)
    record_step q false other all =
        (let e : count_at old.records q - 0 ≡ count_at old.records q = omega arith in e) ∙ kept.records q
        ∙ sym (all_of (is_hold_of key.0.items key.1) (is_hold_on q) (off_record key.0.items key.1 q other) rows)

    name_step : (k : Key) (b : Bool) → is_key key k ≡ b
        → cond b 0 (named_at old.names k) ≡ tally (is_hold_of k.0.items k.1) (others (is_hold_of key.0.items key.1) rows)
    name_step k true same =
        sym (none_of (is_hold_of key.0.items key.1) rows)
        ∙ (λ i. tally (is_hold_of (same_name key k same i) (same_record key k same i)) (others (is_hold_of key.0.items key.1) rows))
    name_step k false other =
        kept.names k ∙ sym (all_of (is_hold_of key.0.items key.1) (is_hold_of k.0.items k.1) (apart key k other) rows)
