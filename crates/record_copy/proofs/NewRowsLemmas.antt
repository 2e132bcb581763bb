-- Rows that are written one after another.
use Rattle.std.proofs.Common.{◌≡◌, ◌<◌, ◌+◌, ◌==◌, ◌+ℤ◌, ◌<ℤ◌, ℕ, ℤ, zero, suc, pos, int_eq, List, [], ◌∷◌, ◌++◌, map, take, find}
use Rattle.std.proofs.Common.{length, get_or, fold, cond, true, false, Some, None, option_map, refl, sym, ap, subst, ◌∙◌, arith}
use Rattle.std.proofs.lemmas.Bool.Decides.{nat_tests}
use Rattle.std.proofs.lemmas.Int.{ints}
use Rattle.std.proofs.lemmas.List.{take_more, map-append}
use Rattle.std.specs.List.{AllByRecursion}
use Rattle.sqlite_trees.specs.Tree.{IsAscending}
use Rattle.sqlite_keyed.specs.Keyed.{IsKeyedBy}
use Rattle.sqlite_keyed.specs.Lists.{update_where}
use Rattle.sqlite_keyed.proofs.ListLemmas.{ascending_from_map, all_map, all_weaker}
use Rattle.sqlite.specs.State.{State}
use Rattle.record_archive.specs.Archive.{Message, Record}
use Rattle.record_tables.specs.Rows.{Tables, message_key, hold_key}
use Rattle.record_tables.specs.Changes.{Puts, Always, IsPastMessages, IsPastRecords, new_message, new_record, with_message}
use Rattle.record_tables.specs.Changes.{with_record, with_hold, with_destruction, destruction_of}
use Rattle.record_tables.specs.Reads.{HoldEntry}
use Rattle.record_tables.proofs.Loops.{puts_then, puts_as, nothing_yet}
use Rattle.record_copy.specs.NewRows.{HasNoMessages, HasNoHolds, IsFreshFor, with_messages, with_records, with_holds, holds_from}

-- the elements before a place are below the one at that place
all_before : {X : Type 0} (R : X → X → Type 0) (xs : List X) (i : ℕ) (d : X) → IsAscending R xs → i < length xs
    → AllByRecursion (λ x. R x (get_or xs i d)) (take i xs)
all_before R [] i d up low = absurd (omega arith)
all_before R (x ∷ xs) zero d up low = tt
all_before R (x ∷ xs) (suc i) d up low = (at xs i d up.0 (omega arith), all_before R xs i d up.1 (omega arith))
  where
    at : (ys : List _) (i : ℕ) (d : _) → AllByRecursion (R x) ys → i < length ys → R x (get_or ys i d)
    at [] i d all low = absurd (omega arith)
    at (y ∷ ys) zero d all low = all.0
    at (y ∷ ys) (suc i) d all low = at ys i d all.1 (omega arith)

below : (a b : ℕ) → pos a <ℤ pos b → a < b
below a b low = grind (arith, ints)

-- ---- messages

at_place : {X Y : Type 0} (f : X → Y) (xs : List X) (i : ℕ) (d : X) (e : Y) → i < length xs
    → get_or (map f xs) i e ≡ f (get_or xs i d)
at_place f [] i d e low = absurd (omega arith)
at_place f (x ∷ xs) zero d e low = refl
at_place f (x ∷ xs) (suc i) d e low = at_place f xs i d e (omega arith)

itself : (n : ℕ) → (n == n) ≡ true
itself n = grind (arith, nat_tests)

another : (m n : ℕ) → m < n → (m == n) ≡ false
another m n low = grind (arith, nat_tests)

-- the message at a place is the one that is found by its number
found_at : (ms : List Message) (i : ℕ) (d : Message) → IsKeyedBy message_key ms → i < length ms
    → find (λ (x : Message). x.number == (get_or ms i d).number) ms ≡ Some (get_or ms i d)
found_at [] i d up low = absurd (omega arith)
found_at (x ∷ ms) zero d up low = ap (λ b. cond b (Some x) (find (λ (y : Message). y.number == x.number) ms)) (itself x.number)
found_at (x ∷ ms) (suc i) d up low =
    let m = get_or ms i d in
    let more = found_at ms i d up.1 (omega arith) in
    let apart = another x.number m.number (later ms i d up.0 (omega arith)) in
    ap (λ b. cond b (Some x) (find (λ (y : Message). y.number == m.number) ms)) apart ∙ more
  where
    later : (ys : List Message) (i : ℕ) (d : Message) → AllByRecursion (λ (y : Message). pos x.number <ℤ pos y.number) ys
        → i < length ys → x.number < (get_or ys i d).number
    later [] i d all low = absurd (omega arith)
    later (y ∷ ys) zero d all low = below x.number y.number all.0
    later (y ∷ ys) (suc i) d all low = later ys i d all.1 (omega arith)

-- the message at a place of the numbers is there
pub body_there : (ms : List Message) (numbers : List ℕ) (v i : ℕ) → IsKeyedBy message_key ms → numbers ≡ map (λ (m : Message). m.number) ms
    → i < length ms → v ≡ get_or numbers i v
    → option_map (λ (m : Message). m.body) (find (λ (m : Message). m.number == v) ms) ≡ None → ⊥
body_there ms numbers v i up same low is none =
    let d : Message = record { number = 0; body = [] } in
    let m = get_or ms i d in
    let number : v ≡ m.number = is ∙ ap (λ ns. get_or ns i v) same ∙ at_place (λ (x : Message). x.number) ms i d v low in
    let found = ap (option_map (λ (x : Message). x.body)) (subst (λ n. find (λ (x : Message). x.number == n) ms
    ≡ Some m) (sym number) (found_at ms i d up low)) in
    absurd (let e = sym found ∙ none in cc)

pub messages_next : (old mid new : State) (ms : List Message) (numbers : List ℕ) (v i : ℕ) → IsKeyedBy message_key ms
    → numbers ≡ map (λ (m : Message). m.number) ms → i < length ms → v ≡ get_or numbers i v
    → Puts old mid HasNoMessages (with_messages (take i ms))
    → ((body : List ℕ) → option_map (λ (m : Message). m.body) (find (λ (m : Message). m.number == v) ms) ≡ Some body
    → Puts mid new (IsPastMessages v) (with_message (new_message v body)))
    → Puts old new HasNoMessages (with_messages (take (i + 1) ms))
messages_next old mid new ms numbers v i up same low is one two =
    let d : Message = record { number = 0; body = [] } in
    let m = get_or ms i d in
    let number : v ≡ m.number = is ∙ ap (λ ns. get_or ns i v) same ∙ at_place (λ (x : Message). x.number) ms i d v low in
    let found = ap (option_map (λ (x : Message). x.body)) (subst (λ n. find (λ (x : Message). x.number == n) ms
    ≡ Some m) (sym number) (found_at ms i d up low)) in
    let last : Puts mid new (IsPastMessages m.number) (with_message m) =
    subst (λ n. Puts mid new (IsPastMessages n) (with_message (new_message n m.body))) number (two m.body found) in
    let past : AllByRecursion (λ (x : Message). x.number < m.number) (take i ms) =
    all_weaker (λ (x : Message). pos x.number <ℤ pos m.number) (λ (x : Message). x.number < m.number)
    (λ x h. below x.number m.number h) (take i ms) (all_before (λ (a b : Message). pos a.number <ℤ pos b.number) ms i d up low) in
    puts_as old new HasNoMessages HasNoMessages _ _ (λ t h. h) (λ t h. ap (λ l. with_messages l t) (sym (take_more ms i d low)))
    (puts_then old mid new HasNoMessages (IsPastMessages m.number) (with_messages (take i ms)) (with_message m) (λ t h. past) one last)

pub none_yet_messages : (a : State) → Puts a a HasNoMessages (with_messages [])
none_yet_messages a = nothing_yet a HasNoMessages (with_messages []) (λ t h. ap (λ l. with_messages l t) h)

-- ---- records

unmarked : (n : ℕ) (rs : List Record) → AllByRecursion (λ (r : Record). r.number < n) rs
    → update_where (λ (r : Record). int_eq (pos r.number) (pos n)) destruction_of rs ≡ rs
unmarked n [] past = refl
unmarked n (r ∷ rs) past =
    let apart : int_eq (pos r.number) (pos n) ≡ false = let low = past.0 in grind (arith, ints) in
    let more = unmarked n rs past.1 in
    λ i. cond (apart i) (destruction_of r) r ∷ more i

-- a record that is written live and then marked as destroyed
pub marked_last : (t : Tables) (r : Record) → r.destroyed ≡ true → IsPastRecords r.number t
    → with_destruction r.number (with_record (new_record r.number r.message r.path r.day) t) ≡ with_record r t
marked_last t r destroyed past =
    let n = r.number in
    let new = new_record n r.message r.path r.day in
    let here : int_eq (pos n) (pos n) ≡ true = grind (arith, ints) in
    let mark = λ (x : Record). cond (int_eq (pos x.number) (pos n)) (destruction_of x) x in
    let last : mark new ≡ r = ap (λ b. cond b (destruction_of new) new) here
    ∙ ap (λ b. record { number = r.number; message = r.message; path = r.path; day = r.day; destroyed = b }) (sym destroyed) in
    ap (λ l. with_records l t) (map-append mark t.records (new ∷ []) ∙ (λ i. unmarked n t.records past i ++ last i ∷ []))

pub live_last : (t : Tables) (r : Record) → r.destroyed ≡ false
    → with_record (new_record r.number r.message r.path r.day) t ≡ with_record r t
live_last t r live =
    ap (λ b. with_record (record { number = r.number; message = r.message; path = r.path; day = r.day; destroyed = b }) t) (sym live)

pub records_next : {V : Type 0} (f : V → Record) (old mid new : State) (vs : List V) (v : V) (i : ℕ) → i < length vs
    → v ≡ get_or vs i v → Puts old mid (IsFreshFor (map f vs)) (with_records (map f (take i vs)))
    → Puts mid new (IsPastRecords (f v).number) (with_record (f v))
    → Puts old new (IsFreshFor (map f vs)) (with_records (map f (take (i + 1) vs)))
records_next f old mid new vs v i low is one two =
    let R = λ (a b : Record). pos a.number <ℤ pos b.number in
    let past : (t : Tables) → IsFreshFor (map f vs) t → AllByRecursion (λ (r : Record). r.number < (f v).number) (map f (take i vs)) =
    λ t h. all_map (λ (r : Record). r.number < (f v).number) f (take i vs)
    (all_weaker (λ x. R (f x) (f (get_or vs i v))) (λ x. (f x).number < (f v).number)
    (λ x k. below (f x).number (f v).number (subst (λ y. R (f x) (f y)) (sym is) k)) (take i vs)
    (all_before (λ a b. R (f a) (f b)) vs i v (ascending_from_map R f vs h.1) low)) in
    let next : map f (take i vs) ++ f v ∷ [] ≡ map f (take (i + 1) vs) = sym (ap (map f) (take_more vs i v low)
    ∙ map-append f (take i vs) _ ∙ ap (λ x. map f (take i vs) ++ f x ∷ []) (sym is)) in
    puts_as old new (IsFreshFor (map f vs)) (IsFreshFor (map f vs)) _ _ (λ t h. h) (λ t h. ap (λ l. with_records l t) next)
    (puts_then old mid new (IsFreshFor (map f vs)) (IsPastRecords (f v).number) _ (with_record (f v)) past one two)

pub none_yet_records : (a : State) (rs : List Record) → Puts a a (IsFreshFor rs) (with_records [])
none_yet_records a rs = nothing_yet a (IsFreshFor rs) (with_records []) (λ t h. ap (λ l. with_records l t) h.0)

-- ---- holds

holds-push : (id : ℤ) (hs : List HoldEntry) (h : HoldEntry) → holds_from id (hs ++ h ∷ []) ≡ holds_from id hs
    ++ record { id = fold (λ _ x. hold_key x +ℤ pos 1) id (holds_from id hs); name = h.name; number = h.number } ∷ []
holds-push id [] h = refl
holds-push id (x ∷ hs) h = ap (λ l. record { id = id; name = x.name; number = x.number } ∷ l) (holds-push (id +ℤ pos 1) hs h)

pub holds_next : {V : Type 0} (f : V → HoldEntry) (old mid new : State) (vs : List V) (v : V) (i : ℕ) → i < length vs
    → v ≡ get_or vs i v → Puts old mid HasNoHolds (with_holds (map f (take i vs)))
    → Puts mid new Always (with_hold (f v).name (f v).number)
    → Puts old new HasNoHolds (with_holds (map f (take (i + 1) vs)))
holds_next f old mid new vs v i low is one two =
    let next : map f (take i vs) ++ f v ∷ [] ≡ map f (take (i + 1) vs) = sym (ap (map f) (take_more vs i v low)
    ∙ map-append f (take i vs) _ ∙ ap (λ x. map f (take i vs) ++ f x ∷ []) (sym is)) in
    puts_as old new HasNoHolds HasNoHolds _ _ (λ t h. h) (λ t h.
    ap (λ l. record t { holds = l }) (sym (holds-push (pos 1) (map f (take i vs)) (f v))
    ∙ ap (holds_from (pos 1)) next))
    (puts_then old mid new HasNoHolds Always _ (with_hold (f v).name (f v).number) (λ t h. tt) one two)

pub none_yet_holds : (a : State) → Puts a a HasNoHolds (with_holds [])
none_yet_holds a = nothing_yet a HasNoHolds (with_holds []) (λ t h. ap (λ l. record t { holds = l }) h)
