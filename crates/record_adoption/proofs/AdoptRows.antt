-- The accepted rows are those of an archive, and what a store keeps beside them.
use Rattle.std.proofs.Common.{◌≡◌, ◌+◌, ◌-◌, ◌==◌, ◌&&◌, ◌||◌, ◌<◌, ◌≤◌, ◌^◌, ◌⊎◌, inl, inr, ℕ, max, Bool, true, false}
use Rattle.std.proofs.Common.{not, cond, List, [], ◌∷◌, map, refl, sym, ap, subst, ◌∙◌, arith}
use Rattle.std.proofs.lemmas.Bool.{cases_Bool}
use Rattle.std.proofs.lemmas.Bool.Decides.{nat_tests}
use Rattle.std.proofs.lemmas.List.Elements.{All-weaker, All-from_recursion, recursion_from_All}
use Rattle.std.proofs.lemmas.List.Sorted.{All-permutation, IsPermutation-sym}
use Rattle.std.specs.List.{AllByRecursion, list_any}
use Rattle.sqlite_trees.specs.Tree.{IsAscending}
use Rattle.sqlite_keyed.proofs.ListLemmas.{all_map, all_unmap, all_weaker, all_both}
use Rattle.class_plan.specs.Plans.{Listing}
use Rattle.record_archive.specs.Archive.{Message, Record, Archive, Hold, IsArchive, IsRecord, is_live, is_named, has_message, past_all}
use Rattle.record_tables.specs.Reads.{HoldEntry, FitsRecord, FitsNumber, FitsHold}
use Rattle.record_tables.specs.CodeRows.{record_of, hold_entry_of, due_of as due_at}
use Rattle.record_tables.specs.declared.rows.HoldRow.{HoldRow}
use Rattle.record_tables.specs.declared.rows.RecordRow.{RecordRow}
use Rattle.record_rows.specs.SoundRows as judged
use Rattle.record_rows.specs.SoundRows.{is_one_of, IsSound}
use Rattle.record_adoption.specs.Adoption.{ArchiveLists, AreSmall, IsOverview, IsJudged, IsKeyed, archive_lists, named_hold, sorted_holds}
use Rattle.record_adoption.specs.Keeping.{dues_in}
use Rattle.record_adoption.specs.Counts.{count_at, tally}
use Rattle.record_adoption.specs.Keeping.{hold_count, live_count}
use Rattle.record_adoption.specs.declared.overview.Overview.{Overview}
use Rattle.record_adoption.proofs.AdoptHolds.{holds_permuted, holds_sorted, numbers_sorted, numbers_rise, tally-map, tally-permutation}

itself : (n : ℕ) → (n == n) ≡ true
itself n = grind (arith, nat_tests)

is_number : (m n : ℕ) → (m == n) ≡ true → m ≡ n
is_number m n h = grind (arith, nat_tests)

or_true : (a b : Bool) → b ≡ true → (a || b) ≡ true
or_true true b e = refl
or_true false b e = e

or_cases : (a b : Bool) → (a || b) ≡ true → (a ≡ true) ⊎ (b ≡ true)
or_cases true b e = inl refl
or_cases false b e = inr e

and_true : (a b : Bool) → (a && b) ≡ true → (a ≡ true) × (b ≡ true)
and_true true b h = (refl, h)
and_true false b h = absurd (cc)

same_truth : (a b : Bool) → (a ≡ true → b ≡ true) → (b ≡ true → a ≡ true) → a ≡ b
same_truth true b f g = sym (f refl)
same_truth false true f g = g refl
same_truth false false f g = refl

not_true : (d : Bool) → not d ≡ true → d ≡ false
not_true true e = absurd (cc)
not_true false e = refl

-- where some element passes a test, one that passes has what all have
found : {X : Type 0} (p : X → Bool) (P : X → Type 0) (xs : List X) → AllByRecursion P xs → list_any p xs ≡ true → (x : X) × (p x ≡ true) × P x
found p P [] h e = absurd (cc)
found p P (x ∷ xs) h e = elim (or_cases (p x) (list_any p xs) e) [ inl here ↦ (x, here, h.0) | inr later ↦ found p P xs h.1 later ]

-- the same of the live records with a number
found_live : (f : Record → ℕ) (P : Record → Type 0) (rs : List Record) (n : ℕ) → AllByRecursion P rs
    → judged.is_of_live f rs n ≡ true → (r : Record) × (r.destroyed ≡ false) × (f r ≡ n) × P r
found_live f P rs n h e =
    let w = found (λ (r : Record). not r.destroyed && (f r == n)) P rs h e in
    let parts = and_true (not w.0.destroyed) (f w.0 == n) w.1 in
    (w.0, not_true w.0.destroyed parts.0, is_number (f w.0) n parts.1, w.2)

-- ---- messages and the records that name them

pub one_of_is : (ms : List Message) (n : ℕ) → is_one_of (map (λ (m : Message). m.number) ms) n ≡ has_message ms n
one_of_is [] n = refl
one_of_is (m ∷ ms) n = ap (λ b. (m.number == n) || b) (one_of_is ms n)

named_from : (p : ℕ → Bool) (ms : List Message) (n : ℕ) → AllByRecursion (λ (m : Message). p m.number ≡ true) ms
    → has_message ms n ≡ true → p n ≡ true
named_from p ms n h e =
    let w = found (λ (m : Message). m.number == n) (λ (m : Message). p m.number ≡ true) ms h e in
    subst (λ k. p k ≡ true) (is_number w.0.number n w.1) w.2

has_from : (ms : List Message) (rs : List Record) (n : ℕ)
    → AllByRecursion (λ (r : Record). r.destroyed ≡ false → has_message ms r.message ≡ true) rs → is_named rs n ≡ true → has_message ms n ≡ true
has_from ms rs n h e =
    let w = found_live (λ (r : Record). r.message) (λ (r : Record). r.destroyed ≡ false → has_message ms r.message ≡ true) rs n h e in
    subst (λ k. has_message ms k ≡ true) w.2 (w.3 w.1)

named_each : (p : ℕ → Bool) (rs : List Record) → ((n : ℕ) → is_named rs n ≡ true → p n ≡ true)
    → AllByRecursion (λ (r : Record). r.destroyed ≡ false → p r.message ≡ true) rs
named_each p [] f = tt
named_each p (r ∷ rs) f = (
  λ live. f r.message (let here : (not r.destroyed && (r.message == r.message)) ≡ true = rw (live, itself r.message) refl in rw here refl),
  named_each p rs (λ n e. f n (or_true (not r.destroyed && (r.message == n)) (is_named rs n) e)),
)

has_each : (p : ℕ → Bool) (ms : List Message) → ((n : ℕ) → has_message ms n ≡ true → p n ≡ true)
    → AllByRecursion (λ (m : Message). p m.number ≡ true) ms
has_each p [] f = tt
has_each p (m ∷ ms) f = (
  f m.number (let here : (m.number == m.number) ≡ true = itself m.number in rw here refl),
  has_each p ms (λ n e. f n (or_true (m.number == n) (has_message ms n) e)),
)

-- ---- the rows of an archive are such rows

-- the message of a live record is stored
abbrev IsStored : Archive → Record → Type 0
IsStored a r = r.destroyed ≡ false → has_message a.messages r.message ≡ true

-- a live record has the number of the hold
abbrev IsHeldBy : List Record → HoldEntry → Type 0
IsHeldBy rs h = judged.is_live rs h.number ≡ true

pub archive_judged : (a : Archive) → IsArchive a → IsJudged a.plan (archive_lists a)
archive_judged a is =
    let records = recursion_from_All (IsRecord a) a.records is.records in
    record {
      rows = record {
        records = All-weaker (IsRecord a) (IsSound a.plan) (λ r h.
            record { number = h.number.0; message = h.message; day = h.day; class = h.class }) a.records is.records;
        in_order = numbers_sorted (λ (r : Record). r.number) a.records is.in_order;
        messages = numbers_sorted (λ (m : Message). m.number) a.messages is.messages;
        named = λ n.
            one_of_is a.messages n
            ∙ same_truth (has_message a.messages n) (is_named a.records n)
            (named_from (is_named a.records) a.messages n
            (recursion_from_All (λ (m : Message). is_named a.records m.number ≡ true) a.messages is.named))
            (has_from a.messages a.records n (all_weaker (IsRecord a) (IsStored a) (λ r h. h.stored) a.records records));
        held = All-permutation (IsHeldBy a.records) (map named_hold a.holds) (sorted_holds a) (IsPermutation-sym _ _ (holds_permuted a))
            (All-from_recursion (IsHeldBy a.records) (map named_hold a.holds) (all_map (IsHeldBy a.records) named_hold a.holds
            (recursion_from_All (λ (h : Hold). IsHeldBy a.records (named_hold h)) a.holds is.held)));
        once = holds_sorted a is.once;
      };
      small = all_weaker (IsRecord a) (λ (r : Record). r.number < 2 ^ 32) (λ r h. h.number.1) a.records records;
    }

-- ---- and such rows are an archive's

pub judged_archive : (a : Archive) → IsKeyed a → IsJudged a.plan (archive_lists a) → IsArchive a
judged_archive a keyed are =
    let rows = are.rows in
    let has : (n : ℕ) → has_message a.messages n ≡ is_named a.records n = λ n. sym (one_of_is a.messages n) ∙ rows.named n in
    let stored = named_each (has_message a.messages) a.records (λ n e. has n ∙ e) in
    let sound = recursion_from_All (IsSound a.plan) a.records rows.records in
    let both = all_both (IsSound a.plan) (λ (r : Record). r.number < 2 ^ 32) (λ (r : Record). IsSound a.plan r
    × (r.number < 2 ^ 32)) (λ r h k. (h, k)) a.records sound are.small in
    record {
      plan = keyed.plan;
      records = All-from_recursion (IsRecord a) a.records
          (all_both (λ (r : Record). IsSound a.plan r × (r.number < 2 ^ 32)) (IsStored a) (IsRecord a)
          (λ r h k. record { number = (h.0.number, h.1); message = h.0.message; day = h.0.day; class = h.0.class; stored = k })
          a.records both stored);
      in_order = numbers_rise (λ (r : Record). r.number) a.records rows.in_order;
      messages = numbers_rise (λ (m : Message). m.number) a.messages rows.messages;
      named = All-from_recursion (λ (m : Message). is_named a.records m.number ≡ true) a.messages
          (has_each (is_named a.records) a.messages (λ n e. sym (has n) ∙ e));
      held = All-from_recursion (λ (h : Hold). IsHeldBy a.records (named_hold h)) a.holds
          (all_unmap (IsHeldBy a.records) named_hold a.holds (recursion_from_All (IsHeldBy a.records) (map named_hold a.holds)
          (All-permutation (IsHeldBy a.records) (sorted_holds a) (map named_hold a.holds) (holds_permuted a) rows.held)));
      once = keyed.once;
    }

-- the same rows under the same plan
pub judged_as : {p q : Listing} {l m : ArchiveLists} → p ≡ q → l ≡ m → IsJudged p l → IsJudged q m
judged_as {q} {l} plan lists h = subst (IsJudged q) lists (subst (λ p. IsJudged p l) plan h)

-- ---- next number

least : (n : ℕ) (rs : List Record) → n ≤ past_all n rs
least n [] = omega arith
least n (r ∷ rs) = omega (arith, least (max n (r.number + 1)) rs)

past : (n : ℕ) (rs : List Record) → AllByRecursion (λ (r : Record). r.number < past_all n rs) rs
past n [] = tt
past n (r ∷ rs) = (omega (arith, least (max n (r.number + 1)) rs), past (max n (r.number + 1)) rs)

pub small_below : (next : ℕ) (rs : List Record) → next ≡ past_all 1 rs → next ≤ 2 ^ 32 → AllByRecursion (λ (r : Record). r.number < 2 ^ 32) rs
small_below next rs e small = all_weaker (λ (r : Record). r.number < past_all 1 rs) (λ (r : Record).
    r.number < 2 ^ 32) (λ r h. omega (arith, h, e, small)) rs (past 1 rs)

-- ---- counts

pub held_is : (a : Archive) (hs : List HoldRow) (n : ℕ) → map hold_entry_of hs ≡ sorted_holds a
    → tally (λ (h : HoldRow). h.record == n) hs ≡ hold_count a n
held_is a hs n same =
    sym (tally-map (λ (h : HoldEntry). h.number == n) hold_entry_of hs) ∙ ap (tally (λ (h : HoldEntry). h.number == n)) same
    ∙ tally-permutation (λ (h : HoldEntry). h.number == n) (sorted_holds a) (map named_hold a.holds) (holds_permuted a)
    ∙ tally-map (λ (h : HoldEntry). h.number == n) named_hold a.holds

none_tallied : {X : Type 0} (p : X → Bool) (xs : List X) → list_any p xs ≡ false → tally p xs ≡ 0
none_tallied p [] h = refl
none_tallied p (x ∷ xs) h = go (p x) h (none_tallied p xs)
  where
    go : (b : Bool) → (b || list_any p xs) ≡ false → (list_any p xs ≡ false → tally p xs ≡ 0) → cond {A = ℕ} b 1 0 + tally p xs ≡ 0
    go true e more = absurd (cc)
    go false e more = let rest = more e in let step : 0 + tally p xs ≡ 0 = omega (arith, rest) in step

apart_tallied : {X : Type 0} (f : X → ℕ) (n : ℕ) (xs : List X) → AllByRecursion (λ x. n < f x) xs → tally (λ (k : ℕ). k == n) (map f xs) ≡ 0
apart_tallied f n [] h = refl
apart_tallied f n (x ∷ xs) h =
    let low = h.0 in
    let other : (f x == n) ≡ false = grind (arith, nat_tests) in
    rw other (let rest = apart_tallied f n xs h.1 in let step : 0 + tally (λ (k : ℕ). k == n) (map f xs) ≡ 0 = omega (arith, rest) in step)

-- a number among ascending numbers is there once
once_tallied : {X : Type 0} (f : X → ℕ) (n : ℕ) (xs : List X) → IsAscending (λ x y. f x < f y) xs
    → is_one_of (map f xs) n ≡ true → tally (λ (k : ℕ). k == n) (map f xs) ≡ 1
once_tallied f n [] up e = absurd (cc)
once_tallied f n (x ∷ xs) up e = go (f x == n) refl e (once_tallied f n xs up.1)
  where
    go : (b : Bool) → (f x == n) ≡ b → (b || is_one_of (map f xs) n) ≡ true
        → (is_one_of (map f xs) n ≡ true → tally (λ (k : ℕ). k == n) (map f xs) ≡ 1) → cond {A = ℕ} b 1 0 + tally (λ (k : ℕ). k == n) (map f xs) ≡ 1
    go true is e more =
        let same = is_number (f x) n is in
        let rest = apart_tallied f n xs (subst (λ k. AllByRecursion (λ y. k < f y) xs) same up.0) in
        let step : 1 + tally (λ (k : ℕ). k == n) (map f xs) ≡ 1 = omega (arith, rest) in
        step
    go false is e more = let rest = more e in let step : 0 + tally (λ (k : ℕ). k == n) (map f xs) ≡ 1 = omega (arith, rest) in step

pub others_are : (a : Archive) → IsArchive a → (rs : List RecordRow) (ms : List ℕ) (m : ℕ)
    → map record_of rs ≡ a.records → ms ≡ map (λ (x : Message). x.number) a.messages
    → tally (λ (r : RecordRow). not r.destroyed && (r.message == m)) rs - tally (λ (k : ℕ). k == m) ms ≡ live_count a m - 1
others_are a is rs ms m records messages =
    let named = λ (r : Record). is_live r && (r.message == m) in
    let live : tally (λ (r : RecordRow). not r.destroyed && (r.message == m)) rs ≡ live_count a m =
    sym (tally-map named record_of rs) ∙ ap (tally named) records in
    let rows = (archive_judged a is).rows in
    (λ i. live i - tally (λ (k : ℕ). k == m) (messages i)) ∙ elim (cases_Bool (is_named a.records m)) [
      | inl there ↦
          let once = once_tallied (λ (x : Message). x.number) m a.messages is.messages (rows.named m ∙ there) in
          ap (λ k. live_count a m - k) once
      | inr none ↦
          let zero = none_tallied (λ (r : Record). is_live r && (r.message == m)) a.records none in
          omega (arith, zero)
    ]

-- ---- an archive's numbers fit in 32 bits

pub records_fit : (a : Archive) → IsArchive a → AllByRecursion FitsRecord a.records
records_fit a is =
    all_weaker (IsRecord a) FitsRecord (λ r h.
    record { number = h.number.1; message = omega (arith, h.message, h.number); day = omega (arith, h.day) })
    a.records (recursion_from_All (IsRecord a) a.records is.records)

-- a number that a live record has fits, where all that they have do
fits_32 : (f : Record → ℕ) (rs : List Record) (n : ℕ) → AllByRecursion (λ (r : Record). f r < 2 ^ 32) rs
    → judged.is_of_live f rs n ≡ true → n < 2 ^ 32
fits_32 f rs n h e = let w = found_live f (λ (r : Record). f r < 2 ^ 32) rs n h e in subst (λ k. k < 2 ^ 32) w.2 w.3

pub numbers_fit : (a : Archive) → IsArchive a → AllByRecursion FitsNumber (map (λ (m : Message). m.number) a.messages)
numbers_fit a is =
    let fits = all_weaker FitsRecord (λ (r : Record). r.message < 2 ^ 32) (λ r h. h.message) a.records (records_fit a is) in
    all_map FitsNumber (λ (m : Message). m.number) a.messages
    (all_weaker (λ (m : Message). is_named a.records m.number ≡ true) (λ (m : Message). FitsNumber m.number)
    (λ m h. fits_32 (λ (r : Record). r.message) a.records m.number fits h) a.messages
    (recursion_from_All (λ (m : Message). is_named a.records m.number ≡ true) a.messages is.named))

pub holds_fit : (a : Archive) → IsArchive a → AllByRecursion FitsHold (sorted_holds a)
holds_fit a is =
    let are = archive_judged a is in
    all_weaker (IsHeldBy a.records) FitsHold (λ h e. fits_32 (λ (r : Record). r.number) a.records h.number are.small e) (sorted_holds a)
    (recursion_from_All (IsHeldBy a.records) (sorted_holds a) are.rows.held)

pub archive_small : (a : Archive) → IsArchive a → AreSmall (archive_lists a)
archive_small a is = record { records = records_fit a is; messages = numbers_fit a is; holds = holds_fit a is }

-- ---- what a store keeps

abbrev pub row_lists : List RecordRow → List ℕ → List HoldRow → ArchiveLists
row_lists rs ms hs = record { records = map record_of rs; messages = ms; holds = map hold_entry_of hs }

pub is_overview : (f : Overview) (a : Archive) (plan : Listing) (rs : List RecordRow) (ms : List ℕ) (hs : List HoldRow)
    → plan ≡ a.plan → IsKeyed a → row_lists rs ms hs ≡ archive_lists a → IsJudged plan (row_lists rs ms hs) → f.plan ≡ plan
    → f.next ≡ past_all 1 (map record_of rs) → ((n : ℕ) → count_at f.held n ≡ tally (λ (h : HoldRow). h.record == n) hs)
    → ((m : ℕ) → count_at f.others m ≡ tally (λ (r : RecordRow). not r.destroyed && (r.message == m)) rs - tally (λ (k : ℕ). k == m) ms)
    → map due_at f.dues.items ≡ dues_in plan (map record_of rs) → IsOverview f a
is_overview f a plan rs ms hs same keyed lists are own next held others dues =
    let archive = judged_archive a keyed (judged_as same lists are) in
    let records = ap (λ (l : ArchiveLists). l.records) lists in
    record {
      plan = own ∙ same;
      next = next ∙ ap (past_all 1) records;
      held = λ n. held n ∙ held_is a hs n (ap (λ (l : ArchiveLists). l.holds) lists);
      others = λ m. others m ∙ others_are a archive rs ms m records (ap (λ (l : ArchiveLists). l.messages) lists);
      dues = dues ∙ (λ i. dues_in (same i) (records i));
      archive = archive;
    }
