-- Lists of a sealed archive, seen as those of an archive.
use Rattle.std.proofs.Common.{◌≡◌, ◌≤◌, ◌<◌, ◌+◌, ◌==◌, ◌&&◌, ◌||◌, ℕ, zero, suc, max, Bool, true}
use Rattle.std.proofs.Common.{false, not, cond, if◌then◌else◌, List, [], ◌∷◌, ◌++◌, map, filter, find, length, take, Option}
use Rattle.std.proofs.Common.{Some, None, option_map, option_and_then, refl, sym, ap, subst, ◌∙◌, arith, drop, set, get_or}
use denote.Ref.{Bor}
use Rattle.std.proofs.lemmas.List.{map-append, take_more, length-map, length-take-le}
use Rattle.std.specs.List.{list_any}
use Rattle.std.specs.Ordering.{nat_cmp}
use Rattle.std.specs.BTreeMap.{get}
use Rattle.std.specs.Prelude.{slice_get, nat_lt, Result, Ok, Err, OnOk, IfErr}
use Rattle.record_archive.specs.Archive.{Archive, Message, Record, Hold, record_at, is_held, is_held_by, is_hold}
use Rattle.record_archive.specs.Archive.{records_of, past_all, has_number, destruction_of, is_live, is_shared, messages_without, without}
use Rattle.record_history.specs.Events.{FoundRecord, FoundMessage, FoundHold, Released, Captured, Seal, Filing}
use Rattle.record_history.specs.Replay.{after}
use Rattle.record_history.specs.Views.{seal_view}
use Rattle.record_judge.specs.Sealed.{record_view, message_view, hold_view, archive_view, marked}
use Rattle.record_judge.specs.Sealed.{AddsMessage, IsDone, IsKept, IsMisdeed, PushesRecord, PushesRecords}
use Rattle.record_judge.specs.Counts.{count_at}
use Rattle.record_judge.specs.Holds.{Key, IsHoldIndex, IsHoldNoted, is_hold_of, is_hold_on, named_at}
use Rattle.record_judge.specs.Indexes.{IsMessageIndex, IsMessageNoted, IsNoted, IsRecordIndex, has_the_number}
use Rattle.record_judge.specs.declared.faults.Misdeed.{Misdeed}
use Rattle.record_judge.specs.declared.faults.Misdeed.TheVariants as misdeed
use Rattle.record_judge.proofs.DeedLemmas.{released_done, captured_done, captured_elsewhere, captured_full, captured_nothing}
use Rattle.record_judge.proofs.IndexLemmas.{any_tally, found_first, has_other, noted}
use Rattle.record_judge.proofs.MessageLemmas.{message_noted}
use Rattle.record_judge.proofs.HoldLemmas.{hold_noted}
use Rattle.record_judge.specs.declared.sealed.NamedHold.{NamedHold}
use Rattle.record_judge.specs.declared.sealed.SealedArchive.{SealedArchive}
use Rattle.record_judge.specs.declared.sealed.SealedMessage.{SealedMessage}
use Rattle.record_judge.specs.declared.sealed.SealedRecord.{SealedRecord}

-- one more record
pub past_snoc : (n : ℕ) (rs : List Record) (r : Record) → past_all n (rs ++ r ∷ []) ≡ max (past_all n rs) (r.number + 1)
past_snoc n [] r = refl
past_snoc n (x ∷ rs) r = past_snoc (max n (x.number + 1)) rs r

-- one more path
pub records_snoc : (n message day : ℕ) (qs : List (List ℕ)) (q : List ℕ) (k : ℕ) → k ≡ n + length qs
    → records_of n message day (qs ++ q ∷ [])
    ≡ records_of n message day qs ++ record { number = k; message = message; path = q; day = day; destroyed = false } ∷ []
records_snoc n message day [] q k is =
    let same : n ≡ k = omega (arith, is) in
    ap (λ j. let r : Record = record { number = j; message = message; path = q; day = day; destroyed = false } in r ∷ []) same
records_snoc n message day (x ∷ qs) q k is =
    ap (λ rs. let r : Record = record { number = n; message = message; path = x; day = day; destroyed = false } in r ∷ rs)
    (records_snoc (n + 1) message day qs q k (omega (arith, is)))

pub filter_map : {A B : Type 0} (p : B → Bool) (f : A → B) (xs : List A) → filter p (map f xs) ≡ map f (filter (λ x. p (f x)) xs)
filter_map p f [] = refl
filter_map {A} p f (x ∷ xs) = go (p (f x)) (filter_map p f xs)
  where
    go : (b : Bool) → filter p (map f xs) ≡ map f (filter (λ (y : A). p (f y)) xs)
        → cond b (f x ∷ filter p (map f xs)) (filter p (map f xs))
        ≡ map f (cond b (x ∷ filter (λ (y : A). p (f y)) xs) (filter (λ (y : A). p (f y)) xs))
    go true h = ap (λ l. f x ∷ l) h
    go false h = h

pub find_map : {A B : Type 0} (p : B → Bool) (f : A → B) (xs : List A) → find p (map f xs) ≡ option_map f (find (λ x. p (f x)) xs)
find_map p f [] = refl
find_map {A} p f (x ∷ xs) = go (p (f x)) (find_map p f xs)
  where
    go : (b : Bool) → find p (map f xs) ≡ option_map f (find (λ (y : A). p (f y)) xs)
        → cond b (Some (f x)) (find p (map f xs)) ≡ option_map f (cond b (Some x) (find (λ (y : A). p (f y)) xs))
    go true h = refl
    go false h = h

pub any_map : {A B : Type 0} (p : B → Bool) (f : A → B) (xs : List A) → list_any p (map f xs) ≡ list_any (λ x. p (f x)) xs
any_map p f [] = refl
any_map p f (x ∷ xs) = ap (λ b. p (f x) || b) (any_map p f xs)

-- a record that is marked is seen as destroyed
one_marked : (n : ℕ) (r : SealedRecord) → record_view (marked n r)
    ≡ (if has_number n (record_view r) then destruction_of (record_view r) else record_view r)
one_marked n r = go (r.number == n)
  where
    go : (b : Bool) → record_view (cond b (record r { destroyed = true }) r) ≡ cond b (destruction_of (record_view r)) (record_view r)
    go true = refl
    go false = refl

pub all_marked : (n : ℕ) (rs : List SealedRecord)
    → map record_view (map (marked n) rs) ≡ map (λ x. if has_number n x then destruction_of x else x) (map record_view rs)
all_marked n [] = refl
all_marked n (r ∷ rs) = λ i. one_marked n r i ∷ all_marked n rs i

-- marks leave the numbers
pub past_marked : (k n : ℕ) (rs : List SealedRecord) → past_all k (map record_view (map (marked n) rs)) ≡ past_all k (map record_view rs)
past_marked k n [] = refl
past_marked k n (r ∷ rs) =
    ap (λ m. past_all (max k (m + 1)) (map record_view (map (marked n) rs))) (same (r.number == n))
    ∙ past_marked (max k (r.number + 1)) n rs
  where
    same : (b : Bool) → (cond b (record r { destroyed = true }) r).number ≡ r.number
    same true = refl
    same false = refl

-- what a look finds, seen
pub seen_in : {A B : Type 0} (f : A → B) (o : Option (Bor A)) (p : Option A) → option_map (λ (r : Bor A). r.now) o ≡ p
    → option_map (λ (r : Bor A). f r.now) o ≡ option_map f p
seen_in f None p is = ap (option_map f) is
seen_in f (Some r) p is = ap (option_map f) is

-- the same question of the records and of their views
pub shared_view : (n m : ℕ) (rows : List SealedRecord) → list_any (has_other n m) rows
    ≡ list_any (λ (x : Record). is_live x && ((x.message == m) && not (x.number == n))) (map record_view rows)
shared_view n m rows = sym (any_map (λ (x : Record). is_live x && ((x.message == m) && not (x.number == n))) record_view rows)

-- nothing is there
pub kept_new : (s : SealedArchive) → s.next ≡ 1 → s.records.items ≡ [] → IsRecordIndex s.record_index [] → s.messages.items ≡ []
    → IsMessageIndex s.message_index [] → s.holds.items ≡ [] → IsHoldIndex s.hold_index [] → IsKept s
kept_new s next records record_index messages message_index holds hold_index = record {
  next = next ∙ ap (λ rs. past_all 1 (map record_view rs)) (sym records);
  records = subst (IsRecordIndex s.record_index) (sym records) record_index;
  messages = subst (IsMessageIndex s.message_index) (sym messages) message_index;
  holds = subst (IsHoldIndex s.hold_index) (sym holds) hold_index;
}

-- ---- captures, by the number that is kept

pub capture_elsewhere : (s : SealedArchive) (first : ℕ) (seal : Seal) (day : ℕ) (filing : Option Filing) (paths : List (List ℕ))
    → (first ≡ s.next → ⊥) → IsKept s → after (Captured first seal day filing paths) (archive_view s) ≡ None
capture_elsewhere s first seal day filing paths other kept =
    captured_elsewhere (archive_view s) first seal day filing paths (λ is. other (is ∙ sym kept.next))

pub capture_nothing : (s : SealedArchive) (first : ℕ) (seal : Seal) (day : ℕ) (filing : Option Filing) → first ≡ s.next → IsKept s
    → after (Captured first seal day filing []) (archive_view s) ≡ Some (archive_view s)
capture_nothing s first seal day filing is kept = captured_nothing (archive_view s) first seal day filing (is ∙ kept.next)

pub capture_full : (s : SealedArchive) (first : ℕ) (seal : Seal) (day : ℕ) (filing : Option Filing) (paths : List (List ℕ)) → first ≡ s.next
    → 0 < length paths → 4294967296 < s.next + length paths → IsKept s → after (Captured first seal day filing paths) (archive_view s) ≡ None
capture_full s first seal day filing paths is some full kept =
    captured_full (archive_view s) first seal day filing paths (is ∙ kept.next) some
    (subst (λ n. 4294967296 < n + length paths) kept.next full)

-- ---- the record with a number

record_found : (s : SealedArchive) (n : ℕ) → IsKept s → record_at (archive_view s) n
    ≡ option_map record_view (option_and_then (slice_get s.records.items) (get nat_cmp s.record_index.first n))
record_found s n kept =
    find_map (has_number n) record_view s.records.items
    ∙ ap (option_map record_view) (found_first (has_the_number n) s.records.items
    ∙ ap (option_and_then (slice_get s.records.items)) (sym (kept.records.first n)))

pub record_nowhere : (s : SealedArchive) (n : ℕ) → get nat_cmp s.record_index.first n ≡ None → IsKept s
    → None ≡ record_at (archive_view s) n
record_nowhere s n is kept =
    sym (record_found s n kept ∙ ap (λ o. option_map record_view (option_and_then (slice_get s.records.items) o)) is)

pub record_there : (s : SealedArchive) (n i : ℕ) (o : Option (Bor SealedRecord)) → get nat_cmp s.record_index.first n ≡ Some i
    → option_map (λ (r : Bor SealedRecord). r.now) o ≡ slice_get s.records.items i → IsKept s
    → option_map (λ (r : Bor SealedRecord). record_view r.now) o ≡ record_at (archive_view s) n
record_there s n i o is at kept =
    seen_in record_view o (slice_get s.records.items i) at
    ∙ sym (record_found s n kept ∙ ap (λ p. option_map record_view (option_and_then (slice_get s.records.items) p)) is)

-- ---- one row more

pub pushes_record : (old new : SealedArchive) (row : SealedRecord) → new.records.items ≡ old.records.items ++ row ∷ []
    → new.next ≡ max old.next (row.number + 1) → new.plan ≡ old.plan → new.messages ≡ old.messages → new.holds ≡ old.holds
    → PushesRecord (record_view row) old new
pushes_record old new row more next plan messages holds = record {
  records = ap (map record_view) more ∙ map-append record_view old.records.items (row ∷ []);
  next = next;
  others = λ i. record {
    plan = plan i;
    messages = map message_view (messages i).items;
    records = map record_view new.records.items;
    holds = map hold_view (holds i).items;
  };
}

pub message_more : (old : SealedArchive) (ms : List SealedMessage) (m : SealedMessage) → ms ≡ old.messages.items ++ m ∷ []
    → after (FoundMessage m.number (seal_view m.seal)) (archive_view old) ≡ Some (record (archive_view old) { messages = map message_view ms })
message_more old ms m more =
    sym (ap (λ l. Some (record (archive_view old) { messages = l }))
    (ap (map message_view) more ∙ map-append message_view old.messages.items (m ∷ [])))

pub hold_more : (old : SealedArchive) (hs : List NamedHold) (h : NamedHold) → hs ≡ old.holds.items ++ h ∷ []
    → after (FoundHold h.name.items h.number) (archive_view old) ≡ Some (record (archive_view old) { holds = map hold_view hs })
hold_more old hs h more =
    sym (ap (λ l. Some (record (archive_view old) { holds = l })) (ap (map hold_view) more ∙ map-append hold_view old.holds.items (h ∷ [])))

-- ---- rows one after the other

append_nil : {X : Type 0} (xs : List X) → xs ++ [] ≡ xs
append_nil [] = refl
append_nil (x ∷ xs) = ap (λ l. x ∷ l) (append_nil xs)

append_assoc : {X : Type 0} (xs ys zs : List X) → (xs ++ ys) ++ zs ≡ xs ++ (ys ++ zs)
append_assoc [] ys zs = refl
append_assoc (x ∷ xs) ys zs = ap (λ l. x ∷ l) (append_assoc xs ys zs)

pub pushes_none : (old : SealedArchive) → PushesRecords [] old old
pushes_none old = record { records = sym (append_nil (map record_view old.records.items)); others = refl }

pub pushes_next : (rs : List Record) (r : Record) (old mid new : SealedArchive) → PushesRecords rs old mid → PushesRecord r mid new
    → PushesRecords (rs ++ r ∷ []) old new
pushes_next rs r old mid new one two = record {
  records = two.records ∙ ap (λ l. l ++ r ∷ []) one.records ∙ append_assoc (map record_view old.records.items) rs (r ∷ []);
  others = two.others ∙ ap (λ (a : Archive). record a { records = map record_view new.records.items }) one.others;
}

-- ---- what a deed leaves of the indexes

pub same_holds : (old new : SealedArchive) → new.holds ≡ old.holds → new.hold_index ≡ old.hold_index → IsKept old
    → IsHoldIndex new.hold_index new.holds.items
same_holds old new holds index kept =
    let at : IsHoldIndex new.hold_index old.holds.items = subst (λ i. IsHoldIndex i old.holds.items) (sym index) kept.holds in
    subst (λ v. IsHoldIndex new.hold_index v.items) (sym holds) at

same_records : (old new : SealedArchive) → new.records ≡ old.records → new.record_index ≡ old.record_index → IsKept old
    → IsRecordIndex new.record_index new.records.items
same_records old new records index kept =
    let at : IsRecordIndex new.record_index old.records.items = subst (λ i. IsRecordIndex i old.records.items) (sym index) kept.records in
    subst (λ v. IsRecordIndex new.record_index v.items) (sym records) at

pub same_messages : (old new : SealedArchive) → new.messages ≡ old.messages → new.message_index ≡ old.message_index → IsKept old
    → IsMessageIndex new.message_index new.messages.items
same_messages old new messages index kept =
    let at : IsMessageIndex new.message_index old.messages.items = subst (λ i. IsMessageIndex i old.messages.items) (sym index) kept.messages in
    subst (λ v. IsMessageIndex new.message_index v.items) (sym messages) at

-- the holds and their index alone are new
kept_with : (old new : SealedArchive) → IsHoldIndex new.hold_index new.holds.items → new.records ≡ old.records
    → new.record_index ≡ old.record_index → new.messages ≡ old.messages → new.message_index ≡ old.message_index → new.next ≡ old.next
    → IsKept old → IsKept new
kept_with old new holds records record_index messages message_index next kept = record {
  next = next ∙ kept.next ∙ ap (λ v. past_all 1 (map record_view v.items)) (sym records);
  records = same_records old new records record_index kept;
  messages = same_messages old new messages message_index kept;
  holds = holds;
}

pub kept_held : (old new : SealedArchive) (h : NamedHold) (key : Key) → new.holds.items ≡ old.holds.items ++ h ∷ []
    → key.0.items ≡ h.name.items → key.1 ≡ h.number → IsHoldNoted key old.hold_index new.hold_index → new.records ≡ old.records
    → new.record_index ≡ old.record_index → new.messages ≡ old.messages → new.message_index ≡ old.message_index → new.next ≡ old.next
    → IsKept old → IsKept new
kept_held old new h key more name number note records record_index messages message_index next kept =
    kept_with old new (subst (IsHoldIndex new.hold_index) (sym more) (hold_noted old.hold_index new.hold_index old.holds.items h key name number
    note kept.holds)) records record_index messages message_index next kept

pub kept_released : (old new : SealedArchive) → (IsHoldIndex old.hold_index old.holds.items → IsHoldIndex new.hold_index new.holds.items)
    → new.records ≡ old.records → new.record_index ≡ old.record_index → new.messages ≡ old.messages
    → new.message_index ≡ old.message_index → new.next ≡ old.next → IsKept old → IsKept new
kept_released old new left records record_index messages message_index next kept =
    kept_with old new (left kept.holds) records record_index messages message_index next kept

pub held_by_name : (s : SealedArchive) (key : Key) (name : List ℕ) (n : ℕ) → key.0.items ≡ name → key.1 ≡ n → IsKept s
    → nat_lt 0 (named_at s.hold_index.names key) ≡ is_held_by (archive_view s) name n
held_by_name s key name n is number kept =
    ap (nat_lt 0) (kept.holds.names key) ∙ sym (any_tally (is_hold_of key.0.items key.1) s.holds.items)
    ∙ (λ i. list_any (is_hold_of (is i) (number i)) s.holds.items) ∙ sym (any_map (is_hold name n) hold_view s.holds.items)

pub held_by_any : (s : SealedArchive) (n : ℕ) → IsKept s → nat_lt 0 (count_at s.hold_index.records n) ≡ is_held (archive_view s) n
held_by_any s n kept =
    ap (nat_lt 0) (kept.holds.records n) ∙ sym (any_tally (is_hold_on n) s.holds.items)
    ∙ sym (any_map (λ (h : Hold). h.number == n) hold_view s.holds.items)

-- ---- a record is removed

pub kept_marked : (n : ℕ) (old new : SealedArchive) → new.records.items ≡ map (marked n) old.records.items → new.next ≡ old.next
    → IsRecordIndex new.record_index new.records.items → IsMessageIndex new.message_index new.messages.items
    → new.holds ≡ old.holds → new.hold_index ≡ old.hold_index → IsKept old → IsKept new
kept_marked n old new marks next index left holds hold_index kept = record {
  holds = same_holds old new holds hold_index kept;
  messages = left;
  next = next ∙ kept.next ∙ sym (past_marked 1 n old.records.items) ∙ ap (λ rs. past_all 1 (map record_view rs)) (sym marks);
  records = index;
}

-- the message goes with its last live record
gone_with : (old new : SealedArchive) (r : Record) (shared : Bool) → shared ≡ is_shared (archive_view old) r
    → new.records.items ≡ map (marked r.number) old.records.items
    → new.messages.items ≡ (if shared then old.messages.items else filter (λ m. not (m.number == r.message)) old.messages.items)
    → new.plan ≡ old.plan → new.holds ≡ old.holds → archive_view new ≡ without (archive_view old) r
gone_with old new r shared same marks gone plan holds = λ i. record {
  plan = plan i;
  messages = messages i;
  records = records i;
  holds = map hold_view (holds i).items;
}
  where
    go : (b : Bool) → map message_view (if b then old.messages.items else filter (λ m. not (m.number == r.message)) old.messages.items)
        ≡ (if b then map message_view old.messages.items
        else filter (λ (m : Message). not (m.number == r.message)) (map message_view old.messages.items))
    go true = refl
    go false = sym (filter_map (λ (m : Message). not (m.number == r.message)) message_view old.messages.items)

    messages : map message_view new.messages.items ≡ messages_without (archive_view old) r
    messages = ap (map message_view) gone ∙ go shared
        ∙ ap (λ b. if b then map message_view old.messages.items else filter (λ (m : Message). not (m.number == r.message)) (map message_view
        old.messages.items)) same

    records : map record_view new.records.items ≡ map (λ x. if has_number r.number x then destruction_of x else x) (map record_view old.records.items)
    records = ap (map record_view) marks ∙ all_marked r.number old.records.items

pub removed : (old new : SealedArchive) (number message : ℕ) (shared : Bool)
    → shared ≡ list_any (λ (x : Record). is_live x && ((x.message == message) && not (x.number == number))) (archive_view old).records
    → new.records.items ≡ map (marked number) old.records.items
    → new.messages.items ≡ (if shared then old.messages.items else filter (λ m. not (m.number == message)) old.messages.items)
    → new.plan ≡ old.plan → new.holds ≡ old.holds → (r : Record) → r.number ≡ number → r.message ≡ message
    → archive_view new ≡ without (archive_view old) r
removed old new number message shared same marks gone plan holds r n m =
    gone_with old new r shared (same ∙ ap (λ k. list_any (λ (x : Record). is_live x && ((x.message == k) && not (x.number == number)))
    (archive_view old).records) (sym m) ∙ ap (λ k. list_any (λ (x : Record). is_live x && ((x.message == r.message) && not (x.number == k)))
    (archive_view old).records) (sym n)) (marks ∙ ap (λ k. map (marked k) old.records.items) (sym n))
    (gone ∙ ap (λ k. if shared then old.messages.items else filter (λ (x : SealedMessage). not (x.number == k)) old.messages.items) (sym m))
    plan holds

replaced : {A : Type 0} (f : A → A) (xs : List A) (i : ℕ) (d : A) → i < length xs
    → set (map f (take i xs) ++ drop i xs) i (f (get_or (map f (take i xs) ++ drop i xs) i d)) ≡ map f (take (suc i) xs) ++ drop (suc i) xs
replaced f [] i d lt = elim lt [ ]
replaced f (x ∷ xs) zero d lt = refl
replaced f (x ∷ xs) (suc i) d lt = ap (λ l. f x ∷ l) (replaced f xs i d (omega (arith, lt)))

-- one more item of a list was replaced
pub one_more : {A : Type 0} (f : A → A) (xs ys : List A) (i : ℕ) (v d : A) → ys ≡ map f (take i xs) ++ drop i xs
    → i < length xs → v ≡ f (get_or ys i d) → set ys i v ≡ map f (take (i + 1) xs) ++ drop (i + 1) xs
one_more f xs ys i v d is lt at =
    let next : suc i ≡ i + 1 = omega arith in
    ap (λ l. set l i v) is
    ∙ ap (λ w. set (map f (take i xs) ++ drop i xs) i w) (at ∙ ap (λ l. f (get_or l i d)) is)
    ∙ replaced f xs i d lt
    ∙ ap (λ n. map f (take n xs) ++ drop n xs) next

pub one_more_any : {A : Type 0} (f : A → A) (xs ys new : List A) (i : ℕ) → ys ≡ map f (take i xs) ++ drop i xs → i < length xs
    → ((d : A) → new ≡ set ys i (f (get_or ys i d))) → new ≡ map f (take (i + 1) xs) ++ drop (i + 1) xs
one_more_any f [] ys new i is lt at = absurd (omega (arith, lt))
one_more_any f (x ∷ xs) ys new i is lt at = at x ∙ one_more f (x ∷ xs) ys i (f (get_or ys i x)) x is lt refl

-- ---- the same, as the code comes to them

pub released_from : (old : SealedArchive) (hs : List NamedHold) (key : Key) (name : List ℕ) (n : ℕ) (r : Record)
    → record_at (archive_view old) n ≡ Some r → is_held_by (archive_view old) name n ≡ true → key.0.items ≡ name → key.1 ≡ n
    → hs ≡ filter (λ h. not (is_hold_of key.0.items key.1 h)) old.holds.items
    → after (Released name n) (archive_view old) ≡ Some (record (archive_view old) { holds = map hold_view hs })
released_from old hs key name n r found there is number left =
    released_done (archive_view old) name n r found there
    ∙ ap (λ l. Some (record (archive_view old) { holds = l })) (filter_map (λ (h : Hold). not (is_hold name n h)) hold_view old.holds.items
    ∙ ap (map hold_view) (sym (left ∙ (λ i. filter (λ h. not (is_hold_of (is i) (number i) h)) old.holds.items))))

pub found_as : {X : Type 0} (old new : SealedArchive) (r : Record) (result : Result X Misdeed) → OnOk result (PushesRecord r old new)
    → IfErr result (λ m. m ≡ misdeed.NoMemory) → IsDone (FoundRecord r) (archive_view old) (archive_view new) result
found_as old new r (Ok x) pushed cause =
    sym (ap (λ x. Some x) (pushed.others ∙ ap (λ rs. record (archive_view old) { records = rs }) pushed.records))
found_as old new r (Err m) pushed cause = subst (IsMisdeed (FoundRecord r) (archive_view old)) (sym cause) tt

pub kept_pushed : (old new : SealedArchive) (row : SealedRecord) (place : ℕ) → new.records.items ≡ old.records.items ++ row ∷ []
    → new.next ≡ max old.next (row.number + 1) → length old.records.items ≡ place → IsNoted row place old.record_index new.record_index
    → new.messages ≡ old.messages → new.message_index ≡ old.message_index → new.holds ≡ old.holds → new.hold_index ≡ old.hold_index
    → IsKept old → IsKept new
kept_pushed old new row place more next long note messages index holds hold_index kept = record {
  holds = same_holds old new holds hold_index kept;
  messages = same_messages old new messages index kept;
  next = next ∙ ap (λ n. max n (row.number + 1)) kept.next ∙ sym (past_snoc 1 (map record_view old.records.items) (record_view row))
      ∙ ap (past_all 1) (sym (ap (map record_view) more ∙ map-append record_view old.records.items (row ∷ [])));
  records = subst (IsRecordIndex new.record_index) (sym more)
      (noted old.record_index new.record_index old.records.items row place long note kept.records);
}

pub kept_messages : (old new : SealedArchive) (m : SealedMessage) → new.messages.items ≡ old.messages.items ++ m ∷ []
    → IsMessageNoted m.number old.message_index new.message_index → new.records ≡ old.records → new.record_index ≡ old.record_index
    → new.next ≡ old.next → new.holds ≡ old.holds → new.hold_index ≡ old.hold_index → IsKept old → IsKept new
kept_messages old new m more note records index next holds hold_index kept = record {
  holds = same_holds old new holds hold_index kept;
  next = next ∙ kept.next ∙ ap (λ v. past_all 1 (map record_view v.items)) (sym records);
  records = same_records old new records index kept;
  messages = subst (IsMessageIndex new.message_index) (sym more)
      (message_noted old.message_index new.message_index old.messages.items m note kept.messages);
}

pub adds_message : (old new : SealedArchive) (m : SealedMessage) → new.messages.items ≡ old.messages.items ++ m ∷ [] → new.plan ≡ old.plan
    → new.records ≡ old.records → new.holds ≡ old.holds → new.next ≡ old.next → AddsMessage m.number (seal_view m.seal) old new
adds_message old new m more plan records holds next = record {
  messages = λ i. record {
    plan = plan i;
    messages = (ap (map message_view) more ∙ map-append message_view old.messages.items (m ∷ [])) i;
    records = map record_view (records i).items;
    holds = map hold_view (holds i).items;
  };
  next = next;
}

-- the record of the next path
pub next_path : (first day i number : ℕ) (paths : List (Bor (List ℕ))) (q : Bor (List ℕ)) (path : List ℕ) (old mid new : SealedArchive)
    → i < length paths → path ≡ (get_or paths i q).now → number ≡ first + i
    → PushesRecords (records_of first first day (map (λ (p : Bor (List ℕ)). p.now) (take i paths))) old mid
    → PushesRecord (record { number = number; message = first; path = path; day = day; destroyed = false }) mid new
    → PushesRecords (records_of first first day (map (λ (p : Bor (List ℕ)). p.now) (take (i + 1) paths))) old new
next_path first day i number paths q path old mid new low same turn was pushed =
    let now : Bor (List ℕ) → List ℕ = λ p. p.now in
    let taken : map now (take (i + 1) paths) ≡ map now (take i paths) ++ path ∷ [] = ap (map now) (take_more paths i q low)
    ∙ map-append now (take i paths) (get_or paths i q ∷ []) ∙ ap (λ x. map now (take i paths) ++ x ∷ []) (sym same) in
    let long : length (map now (take i paths)) ≡ i = length-map (take i paths) now ∙ length-take-le i paths (omega (arith, low)) in
    let rows : records_of first first day (map now (take (i + 1) paths)) ≡ records_of first first day (map now (take i paths))
    ++ record { number = number; message = first; path = path; day = day; destroyed = false } ∷ [] =
    ap (records_of first first day) taken ∙ records_snoc first first day (map now (take i paths)) path number (omega (arith, turn, long)) in
    subst (λ rs. PushesRecords rs old new) (sym rows) (pushes_next (records_of first first day (map now (take i paths))) _ old mid new was pushed)

pub captured_as : {X : Type 0} (old mid new : SealedArchive) (first day : ℕ) (seal : Seal) (filing : Option Filing) (paths : List (List ℕ))
    (result : Result X Misdeed) → IsKept old → first ≡ old.next → 0 < length paths → old.next + length paths ≤ 4294967296
    → AddsMessage first seal old mid → OnOk result (PushesRecords (records_of first first day paths) mid new)
    → IfErr result (λ m. m ≡ misdeed.NoMemory) → IsDone (Captured first seal day filing paths) (archive_view old) (archive_view new) result
captured_as old mid new first day seal filing paths (Ok x) kept is some room added pushed cause =
    captured_done (archive_view old) (archive_view new) first seal day filing paths (is ∙ kept.next) some
    (subst (λ n. n + length paths ≤ 4294967296) kept.next room)
    (pushed.others ∙ ap (λ rs. record (archive_view mid) { records = rs }) pushed.records
    ∙ ap (λ (a : Archive). record a { records = a.records ++ records_of first first day paths }) added.messages)
captured_as old mid new first day seal filing paths (Err m) kept is some room added pushed cause =
    subst (IsMisdeed (Captured first seal day filing paths) (archive_view old)) (sym cause) tt

take_front : {X : Type 0} (ys zs : List X) → take (length ys) (ys ++ zs) ≡ ys
take_front [] zs = refl
take_front (y ∷ ys) zs = ap (λ l. y ∷ l) (take_front ys zs)

-- a slice that is written back to its vector
pub written_back : {X : Type 0} (n : ℕ) (xs ys : List X) → n ≡ length xs → length ys ≡ length xs → take n (ys ++ drop (length ys) xs) ≡ ys
written_back n xs ys is same = ap (λ k. take k (ys ++ drop (length ys) xs)) (is ∙ sym same) ∙ take_front ys (drop (length ys) xs)

pub same_at : {A B : Type 0} (f : A → B) (xs ys : List A) (i : ℕ) (d e : A) → i < length xs → i < length ys → map f xs ≡ map f ys
    → f (get_or xs i d) ≡ f (get_or ys i e)
same_at f [] ys i d e low high h = absurd (omega (arith, low))
same_at f (x ∷ xs) [] i d e low high h = absurd (omega (arith, high))
same_at f (x ∷ xs) (y ∷ ys) zero d e low high h = let one : f x ≡ f y = cc in one
same_at f (x ∷ xs) (y ∷ ys) (suc i) d e low high h =
    let rest : map f xs ≡ map f ys = cc in same_at f xs ys i d e (omega (arith, low)) (omega (arith, high)) rest

-- by which a message is captured
pub ruleset capture_laws = (capture_elsewhere, capture_nothing, capture_full, captured_as)
