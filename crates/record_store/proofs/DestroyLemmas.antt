-- What the destruction of a record makes of the archive and of the tables.
use Rattle.std.proofs.Common.{◌≡◌, ◌+◌, ◌-◌, ◌<◌, ◌≤◌, ◌==◌, ℕ, max, pos, int_eq, Bool, true, false, not, cond, ◌&&◌}
use Rattle.std.proofs.Common.{◌||◌, List, [], ◌∷◌, map, filter, find, Option, Some, None, MatchOption, Result, Ok, Err}
use Rattle.std.proofs.Common.{nat_lt, refl, sym, ap, subst, ◌∙◌, arith, true≢false}
use Rattle.std.proofs.lemmas.Bool.Decides.{nat_tests}
use Rattle.std.specs.List.{AllByRecursion, list_any}
use Rattle.std.proofs.lemmas.List.Elements.{All-from_recursion, recursion_from_All}
use Rattle.sqlite_trees.specs.Tree.{IsAscending}
use Rattle.sqlite_keyed.specs.Lists.{delete_where, update_where}
use Rattle.sqlite_keyed.proofs.ListLemmas.{all_of, all_weaker, all_both, all_map, filter_same, ascending-map}
use Rattle.sqlite_keyed.proofs.ListLemmas.{ascending-filter, ascending_weaker, none_from_any}
use Rattle.sqlite.specs.Store.{Ghosts}
use Rattle.sqlite.specs.Effect.{Database}
use Rattle.record_archive.specs.Archive.{Message, Record, Archive, Hold, IsArchive, IsRecord, destroy_by, destroys}
use Rattle.record_archive.specs.Archive.{is_by_any, record_at, has_number, has_message, is_live, is_held, is_named}
use Rattle.record_archive.specs.Archive.{is_shared, next_number, past_all, destruction_of, messages_without, without}
use Rattle.record_tables.specs.Rows.{Due, StoresKeyed, Tables}
use Rattle.record_tables.specs.Changes as tables
use Rattle.class_plan.specs.Calendar.{due_on}
use Rattle.class_plan.specs.Plans.{schedule_at}
use Rattle.record_adoption.specs.Counts.{count_at, only_at, tally}
use Rattle.record_store.specs.Destruction.{IsUnheld, IsDestruction, against_destruction, with_destruction}
use Rattle.record_adoption.specs.Keeping.{StoresArchive, has_due, due_row, live_count}
use Rattle.record_store.specs.Stores.{StandsFor}
use Rattle.record_archive.specs.declared.fault.ArchiveRefusal.{ArchiveRefusal}
use Rattle.record_archive.specs.declared.fault.ArchiveRefusal.TheVariants as fault
use Rattle.record_store.specs.declared.store.Store.{Store}
use Rattle.record_store.proofs.HoldLemmas.{any-map, found_passes, is_number, same_number}
use Rattle.record_store.proofs.DueLemmas.{held_if, free_if}

pub later_number : (m n : ℕ) → n < m → (m == n) ≡ false
later_number m n h = grind arith

and_true : (b : Bool) → (b && true) ≡ b
and_true true = refl
and_true false = refl

and_false : (b : Bool) → (b && false) ≡ false
and_false true = refl
and_false false = refl

never : (l q : Bool) → (l && (q && false)) ≡ false
never l q = ap (λ b. l && b) (and_false q) ∙ and_false l

-- ---- lists whose elements are tested in two ways

pub tally-map : {X Y : Type 0} (p : Y → Bool) (q : X → Bool) (f : X → Y) → ((x : X) → q x ≡ p (f x)) → (xs : List X) → tally q xs ≡ tally p (map f xs)
tally-map p q f same [] = refl
tally-map p q f same (x ∷ xs) = λ i. cond {A = ℕ} (same x i) 1 0 + tally-map p q f same xs i

any_same_on : {X : Type 0} (p q : X → Bool) (xs : List X) → AllByRecursion (λ x. p x ≡ q x) xs → list_any p xs ≡ list_any q xs
any_same_on p q [] h = refl
any_same_on p q (x ∷ xs) h = let one = h.0 in let more = any_same_on p q xs h.1 in λ i. one i || more i

tally_same_on : {X : Type 0} (p q : X → Bool) (xs : List X) → AllByRecursion (λ x. p x ≡ q x) xs → tally p xs ≡ tally q xs
tally_same_on p q [] h = refl
tally_same_on p q (x ∷ xs) h = let one = h.0 in let more = tally_same_on p q xs h.1 in λ i. cond {A = ℕ} (one i) 1 0 + more i

-- ---- a record among others

-- the records, with the one of this number destroyed
abbrev pub gone : ℕ → List Record → List Record
gone n rs = update_where (has_number n) destruction_of rs

abbrev gone_if : Bool → Record → Record
gone_if b x = cond b (destruction_of x) x

-- a live record of the message
abbrev names : ℕ → Record → Bool
names m x = is_live x && (x.message == m)

-- and one that has another number
abbrev is_other : ℕ → ℕ → Record → Bool
is_other n m x = is_live x && ((x.message == m) && not (x.number == n))

-- each record with the number is this one
abbrev Only : ℕ → Record → List Record → Type 0
Only n r rs = AllByRecursion (λ (x : Record). (x.number == n) ≡ true → x ≡ r) rs

abbrev Below : Record → Record → Type 0
Below x y = x.number < y.number

abbrev one_if : Bool → ℕ
one_if b = cond b 1 0

same_place : (b : Bool) (x : Record) → (gone_if b x).number ≡ x.number
same_place true x = refl
same_place false x = refl

-- each record with the number is the one found by it
only_one : (n : ℕ) (r : Record) (rs : List Record) → IsAscending Below rs → find (has_number n) rs ≡ Some r → Only n r rs
only_one n r [] up at = tt
only_one n r (x ∷ rs) up at = go (x.number == n) refl at (only_one n r rs up.1)
  where
    go : (b : Bool) → (x.number == n) ≡ b → cond b (Some x) (find (has_number n) rs) ≡ Some r
        → (find (has_number n) rs ≡ Some r → Only n r rs) → Only n r (x ∷ rs)
    go true is at more =
        let here : x ≡ r = cc in
        let low : x.number ≡ n = is_number x.number n is in (
          λ _. here,
          all_weaker (Below x) (λ (y : Record). (y.number == n) ≡ true → y ≡ r)
              (λ y above h. absurd (true≢false (sym h ∙ later_number y.number n (omega (arith, low, above))))) rs up.0,
        )
    go false is at more = (λ h. absurd (true≢false (sym h ∙ is)), more at)

-- ---- the records of a message

other_is : (n m : ℕ) (x : Record) → is_other n m x ≡ names m (gone_if (x.number == n) x)
other_is n m x = go (x.number == n)
  where
    go : (b : Bool) → (is_live x && ((x.message == m) && not b)) ≡ names m (gone_if b x)
    go true = never (is_live x) (x.message == m)
    go false = ap (λ c. is_live x && c) (and_true (x.message == m))

-- the messages that live records name after the destruction
named_after : (n m : ℕ) (rs : List Record) → list_any (is_other n m) rs ≡ is_named (gone n rs) m
named_after n m rs = any-map (names m) (is_other n m) (λ (x : Record). gone_if (x.number == n) x) (other_is n m) rs

counted_after : (n m : ℕ) (rs : List Record) → tally (is_other n m) rs ≡ tally (names m) (gone n rs)
counted_after n m rs = tally-map (names m) (is_other n m) (λ (x : Record). gone_if (x.number == n) x) (other_is n m) rs

-- a record of another message does not matter
other_message : (n m : ℕ) (r : Record) → (r.message == m) ≡ false → (x : Record) → ((x.number == n) ≡ true → x ≡ r) → is_other n m x ≡ names m x
other_message n m r apart x same = go (x.number == n) refl
  where
    here : x ≡ r → (is_live x && ((x.message == m) && false)) ≡ names m x
    here is = ap (λ b. is_live x && b) (and_false (x.message == m) ∙ sym (ap (λ (y : Record). y.message == m) is ∙ apart))

    go : (b : Bool) → (x.number == n) ≡ b → (is_live x && ((x.message == m) && not b)) ≡ names m x
    go true is = here (same is)
    go false is = ap (λ c. is_live x && c) (and_true (x.message == m))

others_same : (n m : ℕ) (r : Record) → (r.message == m) ≡ false → (rs : List Record) → Only n r rs
    → AllByRecursion (λ x. is_other n m x ≡ names m x) rs
others_same n m r apart rs only =
    all_weaker (λ (x : Record). (x.number == n) ≡ true → x ≡ r) (λ x. is_other n m x ≡ names m x) (other_message n m r apart) rs only

same_message : (m : ℕ) → (m == m) ≡ true
same_message m = grind arith

-- one of the message's live records is the record itself
one_more : (n : ℕ) (r : Record) (rs : List Record) → IsAscending Below rs → find (has_number n) rs ≡ Some r → r.destroyed ≡ false
    → tally (names r.message) rs ≡ 1 + tally (is_other n r.message) rs
one_more n r [] up at live = absurd cc
one_more n r (x ∷ rs) up at live = go (x.number == n) refl at (λ at. one_more n r rs up.1 at live)
  where
    later : x.number ≡ n → AllByRecursion (λ (y : Record). names r.message y ≡ is_other n r.message y) rs
    later low = all_weaker (Below x) (λ (y : Record). names r.message y ≡ is_other n r.message y)
        (λ y above. sym (ap (λ b. is_live y && ((y.message == r.message) && not b)) (later_number y.number n (omega (arith, low, above)))
        ∙ ap (λ c. is_live y && c) (and_true (y.message == r.message)))) rs up.0

    counts : x ≡ r → names r.message x ≡ true
    counts is = ap (names r.message) is ∙ ap (λ b. not b && (r.message == r.message)) live ∙ same_message r.message

    go : (b : Bool) → (x.number == n) ≡ b → cond b (Some x) (find (has_number n) rs) ≡ Some r
        → (find (has_number n) rs ≡ Some r → tally (names r.message) rs ≡ 1 + tally (is_other n r.message) rs)
        → one_if (names r.message x) + tally (names r.message) rs
        ≡ 1 + (one_if (is_live x && ((x.message == r.message) && not b)) + tally (is_other n r.message) rs)
    go true is at more =
        let here : x ≡ r = cc in
        let one : one_if (names r.message x) ≡ 1 = ap one_if (counts here) in
        let none : one_if (is_live x && ((x.message == r.message) && false)) ≡ 0 = ap one_if (never (is_live x) (x.message == r.message)) in
        let rest : tally (names r.message) rs ≡ tally (is_other n r.message) rs =
        tally_same_on (names r.message) (is_other n r.message) rs (later (is_number x.number n is)) in
        let step : one_if (names r.message x) + tally (names r.message) rs
        ≡ 1 + (one_if (is_live x && ((x.message == r.message) && false)) + tally (is_other n r.message) rs) = omega (arith, one, none, rest) in
        step
    go false is at more =
        let it = more at in
        let same : one_if (is_live x && ((x.message == r.message) && true)) ≡ one_if (names r.message x) =
        ap (λ b. one_if (is_live x && b)) (and_true (x.message == r.message)) in
        let step : one_if (names r.message x) + tally (names r.message) rs
        ≡ 1 + (one_if (is_live x && ((x.message == r.message) && true)) + tally (is_other n r.message) rs) = omega (arith, it, same) in
        step

-- ---- the counts

-- the number of a free record is its own
own_number : (a : Archive) (n : ℕ) (r : Record) → IsUnheld a n r → r.number ≡ n
own_number a n r free = is_number r.number n (found_passes (has_number n) a.records r free.found)

pub free_itself : (a : Archive) (n : ℕ) (r : Record) → IsUnheld a n r → IsUnheld a r.number r
free_itself a n r free = subst (λ k. IsUnheld a k r) (sym (own_number a n r free)) free

-- the live records of each message after the destruction
pub count_destroyed : (a : Archive) (r : Record) → IsArchive a → IsUnheld a r.number r → (m : ℕ)
    → live_count (without a r) m - 1 ≡ (live_count a m - 1) - only_at r.message 1 m
count_destroyed a r is free m = go (m == r.message) refl
  where
    swap : (r.message == m) ≡ (m == r.message)
    swap = grind arith

    other : (m == r.message) ≡ false → live_count (without a r) m ≡ live_count a m
    other apart =
        sym (counted_after r.number m a.records)
        ∙ tally_same_on (is_other r.number m) (names m) a.records
        (others_same r.number m r (swap ∙ apart) a.records (only_one r.number r a.records is.in_order free.found))

    own : live_count a r.message ≡ 1 + live_count (without a r) r.message
    own = one_more r.number r a.records is.in_order free.found free.live ∙ ap (λ k. 1 + k) (counted_after r.number r.message a.records)

    go : (b : Bool) → (m == r.message) ≡ b → live_count (without a r) m - 1 ≡ (live_count a m - 1) - cond {A = ℕ} b 1 0
    go true e =
        let same : m ≡ r.message = is_number m r.message e in
        let both : live_count a m ≡ 1 + live_count (without a r) m = subst (λ k. live_count a k ≡ 1 + live_count (without a r) k) (sym same) own in
        let step : live_count (without a r) m - 1 ≡ (live_count a m - 1) - 1 = omega (arith, both) in
        step
    go false e =
        let both = other e in
        let step : live_count (without a r) m - 1 ≡ (live_count a m - 1) - 0 = omega (arith, both) in
        step

-- whether the message stays, by the count of its live records beyond the first
pub is_kept : (a : Archive) (r : Record) (k : ℕ) → IsArchive a → IsUnheld a r.number r → k ≡ live_count a r.message - 1 → 0 < k → is_shared a r ≡ true
is_kept a r k is free counted some =
    let sum = one_more r.number r a.records is.in_order free.found free.live in
    let more : 0 < tally (is_other r.number r.message) a.records = omega (arith, counted, sum, some) in
    held_if (is_other r.number r.message) a.records more

pub is_last : (a : Archive) (r : Record) (k : ℕ) → IsArchive a → IsUnheld a r.number r → k ≡ live_count a r.message - 1 → k ≡ 0
    → is_shared a r ≡ false
is_last a r k is free counted none =
    let sum = one_more r.number r a.records is.in_order free.found free.live in
    let most : tally (is_other r.number r.message) a.records ≤ 0 = omega (arith, counted, sum, none) in
    free_if (is_other r.number r.message) a.records most

past_gone : (n k : ℕ) (rs : List Record) → past_all k (gone n rs) ≡ past_all k rs
past_gone n k [] = refl
past_gone n k (x ∷ rs) = ap (λ j. past_all (max k (j + 1)) (gone n rs)) (same_place (x.number == n) x) ∙ past_gone n (max k (x.number + 1)) rs

pub next_destroyed : (a : Archive) (r : Record) → next_number (without a r) ≡ next_number a
next_destroyed a r = past_gone r.number 1 a.records

-- ---- the archive

all_passed : {X : Type 0} (Q P : X → Type 0) (p : X → Bool) (xs : List X) → ((x : X) → Q x → p x ≡ true → P x)
    → AllByRecursion Q xs → AllByRecursion P (filter p xs)
all_passed Q P p [] h all = tt
all_passed Q P p (x ∷ xs) h all = go (p x) refl (all_passed Q P p xs h all.1)
  where
    go : (b : Bool) → p x ≡ b → AllByRecursion P (filter p xs) → AllByRecursion P (cond b (x ∷ filter p xs) (filter p xs))
    go true e more = (h x all.0 e, more)
    go false e more = more

-- the messages but the one of this number
abbrev messages_but : ℕ → List Message → List Message
messages_but m ms = delete_where (λ (x : Message). x.number == m) ms

-- a message stays where another one is removed
still_there : (k m : ℕ) → (k == m) ≡ false → (ms : List Message) → has_message ms k ≡ true → has_message (messages_but m ms) k ≡ true
still_there k m apart [] h = absurd (true≢false (sym h))
still_there k m apart (x ∷ ms) h = go (x.number == m) (x.number == k) refl refl h (still_there k m apart ms)
  where
    clash : (x.number == m) ≡ true → (x.number == k) ≡ true → ⊥
    clash one two =
        let first : x.number ≡ m = is_number x.number m one in
        let second : x.number ≡ k = is_number x.number k two in
        let same : (k == m) ≡ true = grind arith in
        true≢false (sym same ∙ apart)

    go : (b c : Bool) → (x.number == m) ≡ b → (x.number == k) ≡ c → (c || has_message ms k) ≡ true
        → (has_message ms k ≡ true → has_message (messages_but m ms) k ≡ true)
        → has_message (cond (not b) (x ∷ messages_but m ms) (messages_but m ms)) k ≡ true
    go true true one two h more = absurd (clash one two)
    go true false one two h more = more h
    go false true one two h more = ap (λ c. c || has_message (messages_but m ms) k) two
    go false false one two h more = ap (λ c. c || has_message (messages_but m ms) k) two ∙ more h

module _ (a : Archive) (r : Record) (is : IsArchive a) (free : IsUnheld a r.number r) where
  only : Only r.number r a.records
  only = only_one r.number r a.records is.in_order free.found

  -- a message stays named where it is not the record's own, or another record shares it
  still_named : (k : ℕ) → is_named a.records k ≡ true → ((k == r.message) ≡ true → is_shared a r ≡ true) → is_named (gone r.number a.records) k ≡ true
  still_named k named shared = go (k == r.message) refl shared
    where
      swap : (r.message == k) ≡ (k == r.message)
      swap = grind arith

      go : (b : Bool) → (k == r.message) ≡ b → (b ≡ true → is_shared a r ≡ true) → is_named (gone r.number a.records) k ≡ true
      go true e shared =
          let same : k ≡ r.message = is_number k r.message e in
          subst (λ j. is_named (gone r.number a.records) j ≡ true) (sym same) (sym (named_after r.number r.message a.records) ∙ shared refl)
      go false e shared =
          sym (named_after r.number k a.records)
          ∙ any_same_on (is_other r.number k) (names k) a.records (others_same r.number k r (swap ∙ e) a.records only) ∙ named

  abbrev IsNamed : Message → Type 0
  IsNamed m = is_named (gone r.number a.records) m.number ≡ true

  abbrev WasNamed : Message → Type 0
  WasNamed m = is_named a.records m.number ≡ true

  named_messages : (b : Bool) → is_shared a r ≡ b → AllByRecursion IsNamed (cond b a.messages (messages_but r.message a.messages))
  named_messages true e =
      all_weaker WasNamed IsNamed (λ m h. still_named m.number h (λ _. e)) a.messages (recursion_from_All _ a.messages is.named)
  named_messages false e =
      all_passed WasNamed IsNamed (λ (m : Message). not (m.number == r.message)) a.messages
      (λ m h other. still_named m.number h (λ own. absurd (true≢false (sym other ∙ ap not own)))) (recursion_from_All _ a.messages is.named)

  rising_messages : (b : Bool) → IsAscending (λ (x y : Message). x.number < y.number) (cond b a.messages (messages_but r.message a.messages))
  rising_messages true = is.messages
  rising_messages false = ascending-filter (λ (x y : Message). x.number < y.number) (λ (m : Message).
      not (m.number == r.message)) a.messages is.messages

  -- the message of another live record stays
  other_stays : (x : Record) → IsRecord a x → (is_shared a r ≡ false → is_other r.number r.message x ≡ false)
      → (x.number == r.number) ≡ false → x.destroyed ≡ false → has_message (messages_without a r) x.message ≡ true
  other_stays x h alone apart live = go (is_shared a r) refl
    where
      its_own : (is_other r.number r.message x ≡ false) → (x.message == r.message) ≡ false
      its_own none =
          sym (and_true (x.message == r.message)) ∙ sym (ap (λ b. (x.message == r.message) && not b) apart)
          ∙ sym (ap (λ d. not d && ((x.message == r.message) && not (x.number == r.number))) live) ∙ none

      go : (b : Bool) → is_shared a r ≡ b → has_message (cond b a.messages (messages_but r.message a.messages)) x.message ≡ true
      go true e = h.stored live
      go false e = still_there x.message r.message (its_own (alone e)) a.messages (h.stored live)

  record_after : (x : Record) → IsRecord a x → (is_shared a r ≡ false → is_other r.number r.message x ≡ false)
      → IsRecord (without a r) (gone_if (x.number == r.number) x)
  record_after x h alone = go (x.number == r.number) refl
    where
      go : (b : Bool) → (x.number == r.number) ≡ b → IsRecord (without a r) (gone_if b x)
      go true e = record { number = h.number; message = h.message; day = h.day; class = h.class; stored = λ live. absurd (true≢false live) }
      go false e = record { number = h.number; message = h.message; day = h.day; class = h.class; stored = λ live. other_stays x h alone e live }

  abbrev IsAlone : Record → Type 0
  IsAlone x = is_shared a r ≡ false → is_other r.number r.message x ≡ false

  alone_each : AllByRecursion IsAlone a.records
  alone_each = go (is_shared a r) refl
    where
      go : (b : Bool) → is_shared a r ≡ b → AllByRecursion IsAlone a.records
      go true e = all_of IsAlone (λ x h. absurd (true≢false (sym e ∙ h))) a.records
      go false e = all_weaker (λ (x : Record). is_other r.number r.message x ≡ false) IsAlone (λ x h _. h) a.records
          (none_from_any (is_other r.number r.message) a.records e)

  -- a hold on another record still names a live one
  abbrev is_on : ℕ → Record → Bool
  is_on k x = is_live x && has_number k x

  held_point : (k : ℕ) → (k == r.number) ≡ false → (x : Record) → is_on k x ≡ is_on k (gone_if (x.number == r.number) x)
  held_point k apart x = go (x.number == r.number) refl
    where
      other : (x.number == r.number) ≡ true → (x.number == k) ≡ false
      other e =
          let same : x.number ≡ r.number = is_number x.number r.number e in
          let swap : (r.number == k) ≡ (k == r.number) = grind arith in
          ap (λ j. j == k) same ∙ swap ∙ apart

      go : (b : Bool) → (x.number == r.number) ≡ b → is_on k x ≡ is_on k (gone_if b x)
      go true e = ap (λ b. is_live x && b) (other e) ∙ and_false (is_live x)
      go false e = refl

  still_held : (h : Hold) → (h.number == r.number) ≡ false → list_any (is_on h.number) a.records ≡ true
      → list_any (is_on h.number) (gone r.number a.records) ≡ true
  still_held h apart live = sym (any-map (is_on h.number) (is_on h.number) (λ (x : Record). gone_if (x.number == r.number) x)
      (held_point h.number apart) a.records) ∙ live

  pub destroyed_is_archive : IsArchive (without a r)
  destroyed_is_archive = record {
    plan = is.plan;
    records = All-from_recursion (IsRecord (without a r)) (gone r.number a.records)
        (all_map (IsRecord (without a r)) (λ (x : Record). gone_if (x.number == r.number) x) a.records
        (all_both (IsRecord a) IsAlone (λ (x : Record). IsRecord (without a r) (gone_if (x.number == r.number) x)) record_after a.records
        (recursion_from_All (IsRecord a) a.records is.records) alone_each));
    in_order = ascending-map Below (λ (x : Record). gone_if (x.number == r.number) x) a.records
        (ascending_weaker Below (λ (x y : Record). Below (gone_if (x.number == r.number) x) (gone_if (y.number == r.number) y))
        (λ x y low. omega (arith, low, same_place (x.number == r.number) x, same_place (y.number == r.number) y)) a.records is.in_order);
    messages = rising_messages (is_shared a r);
    named = All-from_recursion _ (messages_without a r) (named_messages (is_shared a r) refl);
    held = All-from_recursion _ a.holds
        (all_both (λ (h : Hold). (h.number == r.number) ≡ false) (λ (h : Hold). list_any (is_on h.number) a.records ≡ true)
        (λ (h : Hold). list_any (is_on h.number) (gone r.number a.records) ≡ true) still_held a.holds
        (none_from_any (λ (h : Hold). h.number == r.number) a.holds free.free) (recursion_from_All _ a.holds is.held));
    once = is.once;
  }

-- ---- the tables

-- the due days but those of the record of this number
abbrev pub dues_but : ℕ → List Due → List Due
dues_but n ds = delete_where (λ (d : Due). int_eq (pos d.number) (pos n)) ds

-- the due days of records, by the archive's plan
abbrev pub dues_of : Archive → List Record → List Due
dues_of a rs = map (due_row a) (filter (has_due a) rs)

pub dues_without : (a : Archive) (n : ℕ) (rs : List Record) → dues_but n (dues_of a rs) ≡ dues_of a (gone n rs)
dues_without a n [] = refl
dues_without a n (x ∷ rs) = go (has_due a x) (x.number == n) refl refl (dues_without a n rs)
  where
    first : (b : Bool) → (x.number == n) ≡ b
        → dues_but n (due_row a x ∷ dues_of a rs) ≡ cond (not b) (due_row a x ∷ dues_but n (dues_of a rs)) (dues_but n (dues_of a rs))
    first b same = ap (λ c. cond (not c) (due_row a x ∷ dues_but n (dues_of a rs)) (dues_but n (dues_of a rs))) (same_number x.number n ∙ same)

    kept : (h : Bool) → has_due a x ≡ h → map (due_row a) (cond h (x ∷ filter (has_due a) (gone n rs)) (filter (has_due a) (gone n rs)))
        ≡ dues_of a (x ∷ gone n rs)
    kept h is = sym (ap (λ c. map (due_row a) (cond c (x ∷ filter (has_due a) (gone n rs)) (filter (has_due a) (gone n rs)))) is)

    go : (h b : Bool) → has_due a x ≡ h → (x.number == n) ≡ b → dues_but n (dues_of a rs) ≡ dues_of a (gone n rs)
        → dues_but n (map (due_row a) (cond h (x ∷ filter (has_due a) rs) (filter (has_due a) rs))) ≡ dues_of a (gone_if b x ∷ gone n rs)
    go true true is same more = first true same ∙ more
    go false true is same more = more
    go true false is same more = first false same ∙ ap (λ l. due_row a x ∷ l) more ∙ kept true is
    go false false is same more = more ∙ kept false is

-- the message that is removed, if any, is the record's, and no other live record has it
abbrev pub Goes : Archive → Record → Option ℕ → Type 0
Goes a r None = is_shared a r ≡ true
Goes a r (Some m) = (m ≡ r.message) × (is_shared a r ≡ false)

records_without : (n : ℕ) (rs : List Record) → update_where (λ (r : Record). int_eq (pos r.number) (pos n)) tables.destruction_of rs ≡ gone n rs
records_without n [] = refl
records_without n (x ∷ rs) = λ i. gone_if (same_number x.number n i) x ∷ records_without n rs i

messages_less : (m : ℕ) (ms : List Message) → delete_where (λ (x : Message). int_eq (pos x.number) (pos m)) ms ≡ messages_but m ms
messages_less m ms = filter_same (λ (x : Message). not (int_eq (pos x.number) (pos m))) (λ (x : Message).
    not (x.number == m)) (λ x. ap not (same_number x.number m)) ms

-- the tables with the record destroyed, and with these messages
abbrev with_messages : ℕ → List Message → Tables → Tables
with_messages n ms t = record (with_destruction n None t) { messages = ms }

stores_marked : (a : Archive) (r : Record) (was db : Database) (s : StoresArchive was a) (ms : List Message) → ms ≡ messages_without a r
    → StoresKeyed db (with_messages r.number ms s.tables) → StoresArchive db (without a r)
stores_marked a r was db s ms same made = record {
  tables = with_messages r.number ms s.tables;
  stored = made.0;
  keyed = made.1;
  keeps = record {
    messages = same;
    records = ap (update_where (λ (x : Record). int_eq (pos x.number) (pos r.number)) tables.destruction_of) s.keeps.records
        ∙ records_without r.number a.records;
    holds = s.keeps.holds;
    settings = s.keeps.settings;
    classes = s.keeps.classes;
    schedules = s.keeps.schedules;
  };
  dues = ap (dues_but r.number) s.dues ∙ dues_without a r.number a.records;
}

pub stores_destroyed : (a : Archive) (r : Record) (last : Option ℕ) → Goes a r last → (was db : Database)
    → StoresArchive was a → IsDestruction r.number last was db → StoresArchive db (without a r)
stores_destroyed a r None goes was db s turns =
    stores_marked a r was db s s.tables.messages
    (s.keeps.messages ∙ sym (ap (λ b. cond b a.messages (messages_but r.message a.messages)) goes)) (turns.stored s.tables s.stored s.keyed tt)
stores_destroyed a r (Some m) goes was db s turns =
    stores_marked a r was db s (delete_where (λ (x : Message). int_eq (pos x.number) (pos m)) s.tables.messages)
    (ap (delete_where (λ (x : Message). int_eq (pos x.number) (pos m))) s.keeps.messages ∙ messages_less m a.messages
    ∙ ap (λ k. messages_but k a.messages) goes.0 ∙ sym (ap (λ b. cond b a.messages (messages_but r.message a.messages)) goes.1))
    (turns.stored s.tables s.stored s.keyed tt)

-- ---- the judge

pub refused_held : (a : Archive) (n : ℕ) (day : Option ℕ) (r : Record) → record_at a n ≡ Some r → r.destroyed ≡ false
    → is_held a n ≡ true → destroy_by a n day (record_at a n) ≡ Err fault.Held
refused_held a n day r at live held = rw (at, live, held) refl

pub refused_by_plan : (a : Archive) (n : ℕ) (day : Option ℕ) (r : Record) (f : ArchiveRefusal) → record_at a n ≡ Some r
    → r.destroyed ≡ false → is_held a n ≡ false → against_destruction a.plan day r ≡ Some f
    → destroy_by a n day (record_at a n) ≡ Err f
refused_by_plan a n day r f at live free e =
    rw (at, live, free) (go (destroys (schedule_at a.plan r.path)) (is_by_any day (due_on a.plan r.path r.day)) e)
  where
    go : (x y : Bool) → ◌≡◌ {A = Option ArchiveRefusal} (cond (not x) (Some fault.NotForDestruction) (cond (not y) (Some fault.NotDue) None)) (Some f)
        → ◌≡◌ {A = Result Archive ArchiveRefusal}
        (cond (not x) (Err fault.NotForDestruction) (cond (not y) (Err fault.NotDue) (Ok (without a r)))) (Err f)
    go false y e = let s : fault.NotForDestruction ≡ f = cc in ap (λ x. Err x) s
    go true false e = let s : fault.NotDue ≡ f = cc in ap (λ x. Err x) s
    go true true e = absurd cc

pub may_go : (a : Archive) (n : ℕ) (day : Option ℕ) (r : Record) → record_at a n ≡ Some r → r.destroyed ≡ false
    → is_held a n ≡ false → against_destruction a.plan day r ≡ None
    → destroy_by a n day (record_at a n) ≡ Ok (without a r)
may_go a n day r at live free e = rw (at, live, free) (go (destroys (schedule_at a.plan r.path)) (is_by_any day (due_on a.plan r.path r.day)) e)
  where
    go : (x y : Bool) → ◌≡◌ {A = Option ArchiveRefusal} (cond (not x) (Some fault.NotForDestruction) (cond (not y) (Some fault.NotDue) None)) None
        → ◌≡◌ {A = Result Archive ArchiveRefusal}
        (cond (not x) (Err fault.NotForDestruction) (cond (not y) (Err fault.NotDue) (Ok (without a r))))
        (Ok (without a r))
    go false y e = absurd cc
    go true false e = absurd cc
    go true true e = refl

-- ---- the store

pub destroyed_archive : (a : Archive) (n : ℕ) (r : Record) → IsArchive a → IsUnheld a n r → IsArchive (without a r)
destroyed_archive a n r is free = destroyed_is_archive a r is (free_itself a n r free)

-- the message is removed where the store counts no further live record of it
goes : (a : Archive) (r : Record) (k : ℕ) (last : Option ℕ) → IsArchive a → IsUnheld a r.number r
    → k ≡ live_count a r.message - 1 → MatchOption last (0 < k) (λ m. (m ≡ r.message) × (k ≡ 0)) → Goes a r last
goes a r k None is free counted some = is_kept a r k is free counted some
goes a r k (Some m) is free counted none = (none.0, is_last a r k is free counted none.1)

pub keeps_destroyed : {S : Type 0} (g : Ghosts S) (old : Store S) (a : Archive) → StandsFor g old a
    → (n : ℕ) (r : Record) (last : Option ℕ) → IsUnheld a n r
    → MatchOption last (0 < count_at old.others r.message) (λ m. (m ≡ r.message) × (count_at old.others r.message ≡ 0))
    → (was db : Database) → StoresArchive was a → IsDestruction n last was db → StoresArchive db (without a r)
keeps_destroyed g old a s n r last free counted was db kept turns =
    let own = free_itself a n r free in
    stores_destroyed a r last (goes a r (count_at old.others r.message) last s.archive own (s.others r.message) counted) was db kept
    (subst (λ k. IsDestruction k last was db) (sym (own_number a n r free)) turns)

-- another live record has the message where one beyond the first is counted
pub shared_counted : (a : Archive) (r : Record) (k : ℕ) → IsArchive a → record_at a r.number ≡ Some r → r.destroyed ≡ false
    → k ≡ live_count a r.message - 1 → nat_lt 0 k ≡ is_shared a r
shared_counted a r k is found live counted = go (nat_lt 0 k) refl
  where
    go : (b : Bool) → nat_lt 0 k ≡ b → b ≡ is_shared a r
    go true e =
        let sum = one_more r.number r a.records is.in_order found live in
        let some : 0 < k = grind (arith, nat_tests, e) in
        let more : 0 < tally (is_other r.number r.message) a.records = omega (arith, counted, sum, some) in
        sym (held_if (is_other r.number r.message) a.records more)
    go false e =
        let sum = one_more r.number r a.records is.in_order found live in
        let none : k ≤ 0 = grind (arith, nat_tests, e) in
        let most : tally (is_other r.number r.message) a.records ≤ 0 = omega (arith, counted, sum, none) in
        sym (free_if (is_other r.number r.message) a.records most)
