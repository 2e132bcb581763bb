-- Records that get another class.
use Rattle.std.proofs.Common.{◌≡◌, ◌<◌, ◌+◌, ◌==◌, ◌&&◌, ◌++◌, ℕ, zero, suc, max, Bool, true, false, not, cond, List, [], ◌∷◌, map, length, take}
use Rattle.std.proofs.Common.{drop, set, get_or, Option, Some, None, option_map, Ok, Err, refl, sym, ap, subst, ◌∙◌, arith}
use Rattle.std.proofs.lemmas.List.{drop-map, length-map, map-set, take-map}
use Rattle.std.specs.Ordering.{nat_cmp}
use Rattle.std.specs.BTreeMap.{get}
use Rattle.class_plan.specs.Plans.{has}
use Rattle.record_archive.specs.Archive.{Archive, Record, has_number, past_all, record_at}
use Rattle.record_archive.specs.Refiling.{in_class, refile_one, refiled}
use Rattle.record_archive.specs.declared.fault.ArchiveRefusal.TheVariants as refusal
use Rattle.record_history.specs.Events.{Refiled}
use Rattle.record_history.specs.Replay.{after, made}
use Rattle.record_judge.specs.Counts.{count_at, tally}
use Rattle.record_judge.specs.Indexes.{IsRecordIndex, first_of}
use Rattle.record_judge.specs.Refilings.{MayBeRefiled, placed}
use Rattle.record_judge.specs.Sealed.{IsKept, record_view}
use Rattle.record_judge.proofs.SealedLemmas.{one_more, same_holds, same_messages, written_back}
use Rattle.record_judge.specs.declared.record_index.RecordIndex.{RecordIndex}
use Rattle.record_judge.specs.declared.sealed.SealedArchive.{SealedArchive}
use Rattle.record_judge.specs.declared.sealed.SealedRecord.{SealedRecord}

-- ---- the one element of a list that passes is changed

unchanged : {X : Type 0} (p : X → Bool) (f : X → X) → ((x : X) → p x ≡ false → f x ≡ x) → (xs : List X) → tally p xs ≡ 0 → map f xs ≡ xs
unchanged p f same [] h = refl
unchanged p f same (x ∷ xs) h = go (p x) refl h (unchanged p f same xs)
  where
    go : (b : Bool) → p x ≡ b → cond {A = ℕ} b 1 0 + tally p xs ≡ 0 → (tally p xs ≡ 0 → map f xs ≡ xs) → f x ∷ map f xs ≡ x ∷ xs
    go true is e more = let k : 1 + tally p xs ≡ 0 = e in absurd (omega (arith, k))
    go false is e more =
        let k : 0 + tally p xs ≡ 0 = e in ap (λ l. f x ∷ l) (more (omega (arith, k))) ∙ ap (λ y. y ∷ xs) (same x is)

only_changed : {X : Type 0} (p : X → Bool) (f : X → X) → ((x : X) → p x ≡ false → f x ≡ x) → (xs : List X) (i : ℕ) (d : X) → tally p xs ≡ 1
    → first_of p xs ≡ Some i → set xs i (f (get_or xs i d)) ≡ map f xs
only_changed p f same [] i d one at = absurd (let k = one in omega (arith, k))
only_changed p f same (x ∷ xs) i d one at = go (p x) refl one at (λ j. only_changed p f same xs j d)
  where
    later : (o : Option ℕ) → first_of p xs ≡ o → option_map (λ j. suc j) o ≡ Some i → tally p xs ≡ 1 → p x ≡ false
        → ((j : ℕ) → tally p xs ≡ 1 → first_of p xs ≡ Some j → set xs j (f (get_or xs j d)) ≡ map f xs)
        → set (x ∷ xs) i (f (get_or (x ∷ xs) i d)) ≡ map f (x ∷ xs)
    later None first e one other again = absurd (let y = e in cc)
    later (Some j) first e one other again =
        let there : suc j ≡ i = cc in
        subst (λ k. set (x ∷ xs) k (f (get_or (x ∷ xs) k d)) ≡ map f (x ∷ xs)) there
        (ap (λ l. x ∷ l) (again j one first) ∙ ap (λ y. y ∷ map f xs) (sym (same x other)))

    go : (b : Bool) → p x ≡ b → cond {A = ℕ} b 1 0 + tally p xs ≡ 1
        → cond b (Some 0) (option_map (λ j. suc j) (first_of p xs)) ≡ Some i
        → ((j : ℕ) → tally p xs ≡ 1 → first_of p xs ≡ Some j → set xs j (f (get_or xs j d)) ≡ map f xs)
        → set (x ∷ xs) i (f (get_or (x ∷ xs) i d)) ≡ map f (x ∷ xs)
    go true is one at again =
        let k : 1 + tally p xs ≡ 1 = one in
        let there : 0 ≡ i = cc in
        subst (λ k. set (x ∷ xs) k (f (get_or (x ∷ xs) k d)) ≡ map f (x ∷ xs)) there
        (ap (λ l. f x ∷ l) (sym (unchanged p f same xs (omega (arith, k)))))
    go false is one at again =
        let k : 0 + tally p xs ≡ 1 = one in
        later (first_of p xs) refl at (omega (arith, k)) is again

-- ---- the same questions of rows and of what is seen of them

first_map : {A B : Type 0} (p : B → Bool) (f : A → B) (xs : List A) → first_of p (map f xs) ≡ first_of (λ x. p (f x)) xs
first_map p f [] = refl
first_map p f (x ∷ xs) = ap (λ o. cond (p (f x)) (Some 0) (option_map (λ i. suc i) o)) (first_map p f xs)

tally_map : {A B : Type 0} (p : B → Bool) (f : A → B) (xs : List A) → tally p (map f xs) ≡ tally (λ x. p (f x)) xs
tally_map p f [] = refl
tally_map p f (x ∷ xs) = ap (λ n. cond {A = ℕ} (p (f x)) 1 0 + n) (tally_map p f xs)

-- ---- records that are put into a class

other_stays : (n : ℕ) (q : List ℕ) (r : Record) → has_number n r ≡ false → placed n q r ≡ r
other_stays n q r other = ap (λ b. cond b (in_class q r) r) other

-- a question that the path does not answer
same_answer : (n : ℕ) (q : List ℕ) (p : Record → Bool) → ((r : Record) → p (in_class q r) ≡ p r) → (r : Record) → p (placed n q r) ≡ p r
same_answer n q p apart r = go (has_number n r)
  where
    go : (b : Bool) → p (cond b (in_class q r) r) ≡ p r
    go true = apart r
    go false = refl

same_first : (n : ℕ) (q : List ℕ) (p : Record → Bool) → ((r : Record) → p (in_class q r) ≡ p r) → (rows after : List SealedRecord)
    → map record_view after ≡ map (placed n q) (map record_view rows)
    → first_of (λ (r : SealedRecord). p (record_view r)) after ≡ first_of (λ (r : SealedRecord). p (record_view r)) rows
same_first n q p apart rows after is =
    sym (first_map p record_view after) ∙ ap (first_of p) is ∙ first_map p (placed n q) (map record_view rows)
    ∙ (λ i. first_of (λ r. same_answer n q p apart r i) (map record_view rows)) ∙ first_map p record_view rows

same_tally : (n : ℕ) (q : List ℕ) (p : Record → Bool) → ((r : Record) → p (in_class q r) ≡ p r) → (rows after : List SealedRecord)
    → map record_view after ≡ map (placed n q) (map record_view rows)
    → tally (λ (r : SealedRecord). p (record_view r)) after ≡ tally (λ (r : SealedRecord). p (record_view r)) rows
same_tally n q p apart rows after is =
    sym (tally_map p record_view after) ∙ ap (tally p) is ∙ tally_map p (placed n q) (map record_view rows)
    ∙ (λ i. tally (λ r. same_answer n q p apart r i) (map record_view rows)) ∙ tally_map p record_view rows

-- the index of the records stays theirs
pub placed_index : (index : RecordIndex) (n : ℕ) (q : List ℕ) (rows after : List SealedRecord)
    → map record_view after ≡ map (placed n q) (map record_view rows) → IsRecordIndex index rows → IsRecordIndex index after
placed_index index n q rows after is kept = record {
  first = λ k. kept.first k ∙ sym (same_first n q (λ (r : Record). r.number == k) (λ r. refl) rows after is);
  numbers = λ k. kept.numbers k ∙ sym (same_tally n q (λ (r : Record). r.number == k) (λ r. refl) rows after is);
  lives = λ k. kept.lives k ∙ sym (same_tally n q (λ (r : Record). not r.destroyed && (r.message == k)) (λ r. refl) rows after is);
}

past_placed : (k n : ℕ) (q : List ℕ) (rs : List Record) → past_all k (map (placed n q) rs) ≡ past_all k rs
past_placed k n q [] = refl
past_placed k n q (r ∷ rs) =
    ap (λ m. past_all (max k (m + 1)) (map (placed n q) rs)) (same (has_number n r)) ∙ past_placed (max k (r.number + 1)) n q rs
  where
    same : (b : Bool) → (cond b (in_class q r) r).number ≡ r.number
    same true = refl
    same false = refl

-- ---- the same, as the code comes to them

seen_at : (rows : List SealedRecord) (i : ℕ) (d : SealedRecord) → record_view (get_or rows i d) ≡ get_or (map record_view rows) i (record_view d)
seen_at [] i d = refl
seen_at (r ∷ rs) zero d = refl
seen_at (r ∷ rs) (suc i) d = seen_at rs i d

pub row_placed : (rows : List SealedRecord) (i n : ℕ) (q : List ℕ) (row d : SealedRecord)
    → record_view row ≡ placed n q (record_view (get_or rows i d))
    → map record_view (set rows i row) ≡ set (map record_view rows) i (placed n q (record_view (get_or rows i d)))
row_placed rows i n q row d is = map-set record_view rows i row ∙ ap (set (map record_view rows) i) is

-- the only record with a number is put into a class
pub only_placed : (index : RecordIndex) (rows after : List SealedRecord) (i n : ℕ) (q : List ℕ) → IsRecordIndex index rows
    → get nat_cmp index.first n ≡ Some i → count_at index.numbers n ≡ 1
    → ((d : SealedRecord) → map record_view after ≡ set (map record_view rows) i (placed n q (record_view (get_or rows i d))))
    → map record_view after ≡ map (placed n q) (map record_view rows)
only_placed index [] after i n q kept first one is = absurd (let k : 0 ≡ 1 = sym (kept.numbers n) ∙ one in omega (arith, k))
only_placed index (r ∷ rs) after i n q kept first one is =
    let vs : List Record = map record_view (r ∷ rs) in
    is r ∙ ap (λ v. set vs i (placed n q v)) (seen_at (r ∷ rs) i r)
    ∙ only_changed (has_number n) (placed n q) (other_stays n q) vs i (record_view r)
    (tally_map (has_number n) record_view (r ∷ rs) ∙ sym (kept.numbers n) ∙ one)
    (first_map (has_number n) record_view (r ∷ rs) ∙ sym (kept.first n) ∙ first)

-- one more record was put into a class, where it has the number
pub one_more_placed : (n : ℕ) (q : List ℕ) (rows now after : List SealedRecord) (i : ℕ)
    → map record_view now ≡ map (placed n q) (map record_view (take i rows)) ++ map record_view (drop i rows) → i < length rows
    → ((d : SealedRecord) → map record_view after ≡ set (map record_view now) i (placed n q (record_view (get_or now i d))))
    → map record_view after ≡ map (placed n q) (map record_view (take (i + 1) rows)) ++ map record_view (drop (i + 1) rows)
one_more_placed n q [] now after i is lt each = absurd (omega (arith, lt))
one_more_placed n q (r ∷ rs) now after i is lt each =
    let rows : List SealedRecord = r ∷ rs in
    let vs : List Record = map record_view rows in
    let seen : List Record = map record_view now in
    let low : i < length vs = omega (arith, lt, length-map rows record_view) in
    each r ∙ ap (λ v. set seen i (placed n q v)) (seen_at now i r)
    ∙ one_more (placed n q) vs seen i (placed n q (get_or seen i (record_view r))) (record_view r) (is ∙ parted i rows) low refl
    ∙ sym (parted (i + 1) rows)
  where
    parted : (k : ℕ) (xs : List SealedRecord) → map (placed n q) (map record_view (take k xs)) ++ map record_view (drop k xs)
        ≡ map (placed n q) (take k (map record_view xs)) ++ drop k (map record_view xs)
    parted k xs =
        ap (λ l. map (placed n q) l ++ map record_view (drop k xs)) (sym (take-map record_view k xs))
        ∙ ap (λ l. map (placed n q) (take k (map record_view xs)) ++ l) (sym (drop-map record_view k xs))

-- the rows that are written back
pub rows_back : (len n : ℕ) (q : List ℕ) (items rows : List SealedRecord) → len ≡ length items
    → map record_view rows ≡ map (placed n q) (map record_view items)
    → map record_view (take len (rows ++ drop (length rows) items)) ≡ map (placed n q) (map record_view items)
rows_back len n q items rows is seen =
    let long : length rows ≡ length items = sym (length-map rows record_view) ∙ ap length seen
    ∙ length-map (map record_view items) (placed n q) ∙ length-map items record_view in
    ap (map record_view) (written_back len items rows is long) ∙ seen

-- what is kept beside the lists
pub kept_placed : (n : ℕ) (q : List ℕ) (old new : SealedArchive)
    → map record_view new.records.items ≡ map (placed n q) (map record_view old.records.items)
    → new.record_index ≡ old.record_index → new.messages ≡ old.messages → new.message_index ≡ old.message_index
    → new.holds ≡ old.holds → new.hold_index ≡ old.hold_index → new.next ≡ old.next → IsKept old → IsKept new
kept_placed n q old new is record_index messages message_index holds hold_index next kept = record {
  next = next ∙ kept.next ∙ sym (past_placed 1 n q (map record_view old.records.items)) ∙ ap (past_all 1) (sym is);
  records = subst (λ x. IsRecordIndex x new.records.items) (sym record_index)
      (placed_index old.record_index n q old.records.items new.records.items is kept.records);
  messages = same_messages old new messages message_index kept;
  holds = same_holds old new holds hold_index kept;
}

-- ---- where a refiling is lawful

pub refiled_nowhere : (a : Archive) (n : ℕ) (q : List ℕ) → record_at a n ≡ None → after (Refiled n q) a ≡ None
refiled_nowhere a n q is = ap (λ o. made (refile_one a n q o)) is

-- what stands against the refiling of a record that is there
refiling_refused : (a : Archive) (n : ℕ) (q : List ℕ) (d c : Bool) → cond d true (not c) ≡ true
    → made (cond d (Err refusal.Destroyed) (cond (not c) (Err refusal.NoClass) (Ok (refiled a n q)))) ≡ None
refiling_refused a n q true c h = refl
refiling_refused a n q false false h = refl
refiling_refused a n q false true h = absurd (let x = h in cc)

pub refiled_destroyed : (a : Archive) (n : ℕ) (q : List ℕ) (r : Record) → record_at a n ≡ Some r → r.destroyed ≡ true
    → after (Refiled n q) a ≡ None
refiled_destroyed a n q r is gone =
    ap (λ o. made (refile_one a n q o)) is
    ∙ refiling_refused a n q r.destroyed (has a.plan.rows q) (ap (λ d. cond d true (not (has a.plan.rows q))) gone)

pub refiled_classless : (a : Archive) (n : ℕ) (q : List ℕ) (r : Record) → record_at a n ≡ Some r → has a.plan.rows q ≡ false
    → after (Refiled n q) a ≡ None
refiled_classless a n q r is none =
    ap (λ o. made (refile_one a n q o)) is ∙ refiling_refused a n q r.destroyed (has a.plan.rows q) (go r.destroyed)
  where
    go : (d : Bool) → cond d true (not (has a.plan.rows q)) ≡ true
    go true = refl
    go false = ap not none

refiling_lawful : (a : Archive) (n : ℕ) (q : List ℕ) (d c : Bool) → d ≡ false → c ≡ true
    → made (cond d (Err refusal.Destroyed) (cond (not c) (Err refusal.NoClass) (Ok (refiled a n q)))) ≡ Some (refiled a n q)
refiling_lawful a n q false true live class = refl
refiling_lawful a n q false false live class = absurd (let x = class in cc)
refiling_lawful a n q true c live class = absurd (let x = live in cc)

pub refiled_done : (a b : Archive) (n : ℕ) (q : List ℕ) → MayBeRefiled a n q → b ≡ refiled a n q → after (Refiled n q) a ≡ Some b
refiled_done a b n q may is =
    ap (λ o. made (refile_one a n q o)) may.found
    ∙ refiling_lawful a n q may.row.destroyed (has a.plan.rows q) may.live may.class
    ∙ ap (λ x. Some x) (sym is)

pub may_be_refiled : (a : Archive) (n : ℕ) (q : List ℕ) (r : Record) → record_at a n ≡ Some r → r.destroyed ≡ false → has a.plan.rows q ≡ true
    → MayBeRefiled a n q
may_be_refiled a n q r is live class = record { row = r; found = is; live = live; class = class }

-- by which a refiling is judged
pub ruleset refiling_laws = (refiled_nowhere, refiled_destroyed, refiled_classless, may_be_refiled)
