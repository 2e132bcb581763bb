-- Holds that are placed and ended.
use Rattle.std.proofs.Common.{◌≡◌, ◌+◌, ◌==◌, ℕ, Bool, true, false, not, cond, ◌&&◌, ◌||◌, List, [], ◌∷◌, ◌++◌, map}
use Rattle.std.proofs.Common.{filter, find, Option, Some, None, Ok, Err, refl, sym, ap, subst, ◌∙◌, arith, true≢false}
use Rattle.std.proofs.Common.{int_eq, pos, rules}
use Rattle.std.specs.List.{AllByRecursion, list_any}
use Rattle.std.specs.Str.{bytes_eq}
use Rattle.std.proofs.lemmas.Bool.{and_parts, or_right}
use Rattle.std.proofs.lemmas.Map.Text.{is_eq-slice_cmp}
use Rattle.std.proofs.lemmas.Int.{ints}
use Rattle.record_reads.specs.Lookups.{has_hold_of}
use Rattle.std.proofs.lemmas.List.{map-append}
use Rattle.std.proofs.lemmas.List.Elements.{All-push, All-filter}
use Rattle.sqlite_trees.specs.Tree.{IsAscending}
use Rattle.sqlite_keyed.specs.Lists.{delete_where}
use Rattle.sqlite_keyed.proofs.ListLemmas.{all_weaker, ascending-append, filter-map, filter_same, ascending-filter, none_from_any}
use Rattle.sqlite.specs.Effect.{Database}
use Rattle.record_archive.specs.Archive.{Record, Archive, Hold, IsArchive, record_at, has_number, is_live, is_hold}
use Rattle.record_archive.specs.Archive.{is_held_by, hold, hold_one, release, release_one, with_hold, without_hold}
use Rattle.record_tables.specs.Rows.{Hold as HoldRow}
use Rattle.record_tables.specs.Changes as tables
use Rattle.record_tables.specs.Changes.{Turns, Always}
use Rattle.record_adoption.specs.Counts.{only_at, tally}
use Rattle.record_adoption.specs.Keeping.{StoresArchive, hold_of, hold_count}
use Rattle.record_archive.specs.declared.fault.ArchiveRefusal.TheVariants as fault

-- ---- what is found by a number

pub found_passes : {X : Type 0} (p : X → Bool) (xs : List X) (x : X) → find p xs ≡ Some x → p x ≡ true
found_passes p [] x e = absurd cc
found_passes p (y ∷ xs) x e = go (p y) refl e (found_passes p xs x)
  where
    go : (b : Bool) → p y ≡ b → cond b (Some y) (find p xs) ≡ Some x → (find p xs ≡ Some x → p x ≡ true) → p x ≡ true
    go true is e more = let same : y ≡ x = cc in subst (λ z. p z ≡ true) same is
    go false is e more = more e

-- what is found is there
pub any_found : {X : Type 0} (p q : X → Bool) (xs : List X) (x : X) → find p xs ≡ Some x → q x ≡ true → list_any (λ y. q y && p y) xs ≡ true
any_found p q [] x e h = absurd cc
any_found p q (y ∷ xs) x e h = go (p y) refl e (λ e. any_found p q xs x e h)
  where
    go : (b : Bool) → p y ≡ b → cond b (Some y) (find p xs) ≡ Some x
        → (find p xs ≡ Some x → list_any (λ y. q y && p y) xs ≡ true)
        → ((q y && p y) || list_any (λ y. q y && p y) xs) ≡ true
    go true is e more = let same : y ≡ x = cc in let live : q y ≡ true = subst (λ z. q z ≡ true) (sym same) h in rw (live, is) refl
    go false is e more = or_right (q y && p y) _ (more e)

-- ---- a hold is placed

-- what holds where a hold may be placed
pub record MayHold (a : Archive) (name : List ℕ) (n : ℕ) : Type 0 where
  pub at : Record
  pub found : record_at a n ≡ Some at
  pub live : at.destroyed ≡ false
  pub apart : is_held_by a name n ≡ false

pub may_hold : (a : Archive) (name : List ℕ) (n : ℕ) → hold a name n ≡ Ok (with_hold a name n) → MayHold a name n
may_hold a name n e = go (record_at a n) refl e
  where
    at_last : (r : Record) → record_at a n ≡ Some r → (d h : Bool) → r.destroyed ≡ d → is_held_by a name n ≡ h
        → cond d (Err fault.Destroyed) (cond h (Err fault.HoldThere) (Ok (with_hold a name n)))
        ≡ Ok (with_hold a name n) → MayHold a name n
    at_last r is false false live apart e = record { at = r; found = is; live = live; apart = apart }
    at_last r is true h live apart e = absurd cc
    at_last r is false true live apart e = absurd cc

    go : (o : Option Record) → record_at a n ≡ o → hold_one a name n o ≡ Ok (with_hold a name n) → MayHold a name n
    go None is e = absurd cc
    go (Some r) is e = at_last r is r.destroyed (is_held_by a name n) refl refl e

ascending-push : {X : Type 0} (R : X → X → Type 0) (xs : List X) (x : X) → IsAscending R xs
    → AllByRecursion (λ y. R y x) xs → IsAscending R (xs ++ x ∷ [])
ascending-push R xs x up all =
    ascending-append R xs (x ∷ []) up (tt, tt) (all_weaker (λ y. R y x) (λ y. AllByRecursion (R y) (x ∷ [])) (λ y h. (h, tt)) xs all)

number_eq-sym : (m n : ℕ) → (m == n) ≡ (n == m)
number_eq-sym m n = grind arith

bytes_eq-sym : (s t : List ℕ) → bytes_eq s t ≡ bytes_eq t s
bytes_eq-sym [] [] = refl
bytes_eq-sym [] (y ∷ t) = refl
bytes_eq-sym (x ∷ s) [] = refl
bytes_eq-sym (x ∷ s) (y ∷ t) = λ i. number_eq-sym x y i && bytes_eq-sym s t i

other_way : (name : List ℕ) (n : ℕ) (x : Hold) → is_hold name n x ≡ false → is_hold x.name x.number (record { name = name; number = n }) ≡ false
other_way name n x h = (λ i. bytes_eq-sym name x.name i && number_eq-sym n x.number i) ∙ h

pub held_is_archive : (a : Archive) (name : List ℕ) (n : ℕ) → IsArchive a → hold a name n ≡ Ok (with_hold a name n) → IsArchive (with_hold a name n)
held_is_archive a name n is e =
    let may = may_hold a name n e in
    let live : is_live may.at ≡ true = ap not may.live in
    record {
      plan = is.plan;
      records = λ i d low. let r = is.records i d low in record {
        number = r.number;
        message = r.message;
        day = r.day;
        class = r.class;
        stored = r.stored;
      };
      in_order = is.in_order;
      messages = is.messages;
      named = is.named;
      held = All-push (λ (h : Hold). list_any (λ (r : Record). is_live r && has_number h.number r) a.records
          ≡ true) a.holds (record { name = name; number = n }) is.held
          (any_found (has_number n) is_live a.records may.at may.found live);
      once = ascending-push (λ (x y : Hold). is_hold x.name x.number y ≡ false) a.holds (record { name = name; number = n }) is.once
          (all_weaker (λ x. is_hold name n x ≡ false) (λ x. is_hold x.name x.number (record { name = name; number = n })
          ≡ false) (other_way name n) a.holds (none_from_any (is_hold name n) a.holds may.apart));
    }

pub stores_held : (name : List ℕ) (n : ℕ) (a : Archive) (was db : Database) → StoresArchive was a
    → Turns was db Always (tables.with_hold name n) → StoresArchive db (with_hold a name n)
stores_held name n a was db s turns =
    let made = turns.stored s.tables s.stored s.keyed tt in
    record {
      tables = tables.with_hold name n s.tables;
      stored = made.0;
      keyed = made.1;
      keeps = record {
        messages = s.keeps.messages;
        records = s.keeps.records;
        holds = map-append hold_of s.tables.holds _ ∙ ap (λ l. l ++ record { name = name; number = n } ∷ []) s.keeps.holds;
        settings = s.keeps.settings;
        classes = s.keeps.classes;
        schedules = s.keeps.schedules;
      };
      dues = s.dues;
    }

pub tally-append : {X : Type 0} (p : X → Bool) (xs ys : List X) → tally p (xs ++ ys) ≡ tally p xs + tally p ys
tally-append p [] ys = omega arith
tally-append p (x ∷ xs) ys =
    let more = tally-append p xs ys in
    let step : cond {A = ℕ} (p x) 1 0 + tally p (xs ++ ys) ≡ (cond {A = ℕ} (p x) 1 0 + tally p xs) + tally p ys = omega (arith, more) in
    step

pub count_held : (a : Archive) (name : List ℕ) (n : ℕ) (m : ℕ) → hold_count (with_hold a name n) m ≡ hold_count a m + only_at n 1 m
count_held a name n m =
    let one : cond {A = ℕ} (n == m) 1 0 ≡ only_at n 1 m = ap (λ b. cond {A = ℕ} b 1 0) (number_eq-sym n m) in
    let last : cond {A = ℕ} (n == m) 1 0 + 0 ≡ only_at n 1 m = omega (arith, one) in
    tally-append (λ (h : Hold). h.number == m) a.holds (record { name = name; number = n } ∷ []) ∙ ap (λ k. hold_count a m + k) last

-- ---- a hold is ended

pub same_number : (m n : ℕ) → int_eq (pos m) (pos n) ≡ (m == n)
same_number m n = grind (arith, ints)

same_hold : (name : List ℕ) (n : ℕ) (h : HoldRow) → tables.is_hold name n h ≡ is_hold name n (hold_of h)
same_hold name n h = λ i. is_eq-slice_cmp h.name name i && same_number h.number n i

pub any-map : {X Y : Type 0} (p : Y → Bool) (q : X → Bool) (f : X → Y) → ((x : X) → q x ≡ p (f x))
    → (xs : List X) → list_any q xs ≡ list_any p (map f xs)
any-map p q f same [] = refl
any-map p q f same (x ∷ xs) = λ i. same x i || any-map p q f same xs i

-- the tables decide whether a hold is there
pub hold_told : (name : List ℕ) (n : ℕ) (a : Archive) (db : Database) (s : StoresArchive db a) → has_hold_of name n s.tables ≡ is_held_by a name n
hold_told name n a db s = any-map (is_hold name n) (tables.is_hold name n) hold_of (same_hold name n) s.tables.holds
    ∙ ap (list_any (is_hold name n)) s.keeps.holds

pub is_there : (a : Archive) (name : List ℕ) (n : ℕ) → release a name n ≡ Ok (without_hold a name n) → is_held_by a name n ≡ true
is_there a name n e = go (record_at a n) e
  where
    last : (h : Bool) → is_held_by a name n ≡ h → cond h (Ok (without_hold a name n)) (Err fault.NoHold)
        ≡ Ok (without_hold a name n) → is_held_by a name n ≡ true
    last true is e = is
    last false is e = absurd cc

    go : (o : Option Record) → release_one a name n o ≡ Ok (without_hold a name n) → is_held_by a name n ≡ true
    go None e = absurd cc
    go (Some r) e = last (is_held_by a name n) refl e

pub released_is_archive : (a : Archive) (name : List ℕ) (n : ℕ) → IsArchive a → IsArchive (without_hold a name n)
released_is_archive a name n is = record {
  plan = is.plan;
  records = λ i d low. let r = is.records i d low in record {
    number = r.number;
    message = r.message;
    day = r.day;
    class = r.class;
    stored = r.stored;
  };
  in_order = is.in_order;
  messages = is.messages;
  named = is.named;
  held = All-filter (λ (h : Hold). not (is_hold name n h)) (λ (h : Hold).
      list_any (λ (r : Record). is_live r && has_number h.number r) a.records ≡ true) a.holds is.held;
  once = ascending-filter (λ (x y : Hold). is_hold x.name x.number y ≡ false) (λ (h : Hold). not (is_hold name n h)) a.holds is.once;
}

pub stores_released : (name : List ℕ) (n : ℕ) (a : Archive) (was db : Database) → StoresArchive was a
    → Turns was db Always (tables.without_hold name n) → StoresArchive db (without_hold a name n)
stores_released name n a was db s turns =
    let made = turns.stored s.tables s.stored s.keyed tt in
    let gone : Hold → Bool = λ h. not (is_hold name n h) in
    record {
      tables = tables.without_hold name n s.tables;
      stored = made.0;
      keyed = made.1;
      keeps = record {
        messages = s.keeps.messages;
        records = s.keeps.records;
        holds = ap (map hold_of) (filter_same (λ h. not (tables.is_hold name n h)) (λ h. gone (hold_of h)) (λ h.
            ap not (same_hold name n h)) s.tables.holds)
            ∙ sym (filter-map gone hold_of s.tables.holds) ∙ ap (filter gone) s.keeps.holds;
        settings = s.keeps.settings;
        classes = s.keeps.classes;
        schedules = s.keeps.schedules;
      };
      dues = s.dues;
    }

pub same_name : (s t : List ℕ) → bytes_eq s t ≡ true → s ≡ t
same_name s t h = search rules

pub is_number : (m n : ℕ) → (m == n) ≡ true → m ≡ n
is_number m n h = grind arith

none_gone : {X : Type 0} (q : X → Bool) (xs : List X) → AllByRecursion (λ x. q x ≡ false) xs → delete_where q xs ≡ xs
none_gone q [] h = refl
none_gone q (x ∷ xs) h = let first = h.0 in rw first (ap (λ l. x ∷ l) (none_gone q xs h.1))

pub count_released : (name : List ℕ) (n m : ℕ) (hs : List Hold)
    → IsAscending (λ (x y : Hold). is_hold x.name x.number y ≡ false) hs → list_any (is_hold name n) hs ≡ true
    → tally (λ (h : Hold). h.number == m) (delete_where (is_hold name n) hs) + only_at n 1 m ≡ tally (λ (h : Hold). h.number == m) hs
count_released name n m [] up there = absurd (true≢false (sym there))
count_released name n m (x ∷ hs) up there = go (is_hold name n x) refl there (count_released name n m hs up.1)
  where
    p : Hold → Bool
    p h = h.number == m

    go : (b : Bool) → is_hold name n x ≡ b → (b || list_any (is_hold name n) hs) ≡ true
        → (list_any (is_hold name n) hs ≡ true
        → tally (λ (h : Hold). h.number == m) (delete_where (is_hold name n) hs) + only_at n 1 m
        ≡ tally (λ (h : Hold). h.number == m) hs)
        → tally (λ (h : Hold).
        h.number == m) (cond (not b) (x ∷ delete_where (is_hold name n) hs) (delete_where (is_hold name n) hs)) +
        only_at n 1 m ≡ cond {A = ℕ} (x.number == m) 1 0 + tally (λ (h : Hold). h.number == m) hs
    go true is there more =
        let parts = and_parts (bytes_eq x.name name) (x.number == n) is in
        let named : x.name ≡ name = same_name x.name name parts.0 in
        let numbered : x.number ≡ n = is_number x.number n parts.1 in
        let apart = subst (λ k. AllByRecursion (λ y. is_hold k n y ≡ false) hs) named (subst (λ k.
        AllByRecursion (λ y. is_hold x.name k y ≡ false) hs) numbered up.0) in
        let rest : tally (λ (h : Hold). h.number == m) (delete_where (is_hold name n) hs)
        ≡ tally (λ (h : Hold). h.number == m) hs =
        ap (tally (λ (h : Hold). h.number == m)) (none_gone (is_hold name n) hs apart) in
        let here : only_at n 1 m ≡ cond {A = ℕ} (x.number == m) 1 0 = ap (λ b. cond {A = ℕ} b 1 0) (number_eq-sym m n
        ∙ ap (λ k. k == m) (sym numbered)) in
        let step : tally (λ (h : Hold). h.number == m) (delete_where (is_hold name n) hs) + only_at n 1 m
        ≡ cond {A = ℕ} (x.number == m) 1 0 + tally (λ (h : Hold). h.number == m) hs = omega (arith, rest, here) in
        step
    go false is there more =
        let it = more there in
        let step : (cond {A = ℕ} (x.number == m) 1 0 + tally (λ (h : Hold).
        h.number == m) (delete_where (is_hold name n) hs)) + only_at n 1 m
        ≡ cond {A = ℕ} (x.number == m) 1 0 + tally (λ (h : Hold). h.number == m) hs = omega (arith, it) in
        step
