-- What a capture makes of the tables and of the archive.
use Rattle.std.proofs.Common.{◌≡◌, ◌<◌, ◌≤◌, ◌+◌, ◌-◌, ◌^◌, ◌==◌, ℕ, ℤ, pos, option_map, max, Bool, true, false, cond}
use Rattle.std.proofs.Common.{◌&&◌, ◌||◌, List, [], ◌∷◌, ◌++◌, map, filter, take, length, get_or, Option, Some, None}
use Rattle.std.proofs.Common.{is_some, unwrap_or, refl, sym, ap, subst, ◌∙◌, arith, true≢false, append_assoc}
use Rattle.std.specs.List.{AllByRecursion, All, list_any}
use Rattle.std.proofs.lemmas.List.{take_more, map-append, append-nil, length-take-le}
use Rattle.std.proofs.lemmas.List.Elements.{All-push, All-weaker, All-from_recursion, recursion_from_All}
use Rattle.sqlite_trees.specs.Tree.{IsAscending}
use Rattle.sqlite_keyed.proofs.ListLemmas.{all-append, all_weaker, ascending-append, ascending-map, ascending-filter}
use Rattle.sqlite.specs.Effect.{Database}
use Rattle.sqlite.specs.State.{State}
use Rattle.class_plan.specs.Plans.{Listing, has}
use Rattle.class_plan.specs.Calendar.{due_on}
use Rattle.record_archive.specs.Archive.{Message, Record, Archive, Hold, Line, IsArchive, IsRecord, is_live, is_named}
use Rattle.record_archive.specs.Archive.{has_message, has_number, next_number, past_all, records_of, new_records}
use Rattle.record_archive.specs.Archive.{after_capture, line_of}
use Rattle.record_tables.specs.Rows.{Tables, Due}
use Rattle.record_tables.specs.Changes.{Puts, Turns, AreAscending, IsPastMessages, IsPastRecords, IsPastDues, with_message, with_record, with_due}
use Rattle.record_tables.proofs.Loops.{puts_then, puts_as, nothing_yet}
use Rattle.record_adoption.specs.Counts.{only_at, tally}
use Rattle.record_store.proofs.HoldLemmas.{tally-append}
use Rattle.record_store.specs.Captures.{with_records, with_more_dues, with_captured, AreAfter, ArePast, lines_of, due_before, dues_of_lines}
use Rattle.record_adoption.specs.Keeping.{StoresArchive, has_due, due_row, due_rows, live_count}

-- ---- lists that ascend

all_front : {X : Type 0} (P : X → Type 0) (xs ys : List X) → AllByRecursion P (xs ++ ys) → AllByRecursion P xs
all_front P [] ys h = tt
all_front P (x ∷ xs) ys h = (h.0, all_front P xs ys h.1)

all_last : {X : Type 0} (P : X → Type 0) (xs : List X) (y : X) → AllByRecursion P (xs ++ y ∷ []) → P y
all_last P [] y h = h.0
all_last P (x ∷ xs) y h = all_last P xs y h.1

asc_front : {X : Type 0} (R : X → X → Type 0) (xs ys : List X) → IsAscending R (xs ++ ys) → IsAscending R xs
asc_front R [] ys up = tt
asc_front R (x ∷ xs) ys up = (all_front (R x) xs ys up.0, asc_front R xs ys up.1)

asc_last : {X : Type 0} (R : X → X → Type 0) (xs : List X) (y : X) → IsAscending R (xs ++ y ∷ []) → AllByRecursion (λ x. R x y) xs
asc_last R [] y up = tt
asc_last R (x ∷ xs) y up = (all_last (R x) xs y up.0, asc_last R xs y up.1)

-- ---- due days, one after another

pub no_more_dues : (a : State) → Puts a a (AreAfter []) (with_more_dues [])
no_more_dues a = nothing_yet a (AreAfter []) (with_more_dues []) (λ t h. ap (λ l. record t { dues = l }) (sym (append-nil t.dues)))

pub more_dues_next : {V : Type 0} (f : V → Due) (old mid new : State) (vs : List V) (v : V) (i : ℕ) → i < length vs → v ≡ get_or vs i v
    → Puts old mid (AreAfter (map f (take i vs))) (with_more_dues (map f (take i vs))) → Puts mid new (IsPastDues (f v).number) (with_due (f v))
    → Puts old new (AreAfter (map f (take (i + 1) vs))) (with_more_dues (map f (take (i + 1) vs)))
more_dues_next f old mid new vs v i low is one two =
    let next : map f (take (i + 1) vs) ≡ map f (take i vs) ++ f v ∷ [] = ap (map f) (take_more vs i v low)
    ∙ map-append f (take i vs) _ ∙ ap (λ x. map f (take i vs) ++ f x ∷ []) (sym is) in
    let whole : (t : Tables) → t.dues ++ map f (take (i + 1) vs) ≡ (t.dues ++ map f (take i vs))
    ++ f v ∷ [] = λ t. ap (λ l. t.dues ++ l) next ∙ sym (append_assoc t.dues (map f (take i vs)) (f v ∷ [])) in
    let up : (t : Tables) → AreAfter (map f (take (i + 1) vs)) t
    → AreAscending ((t.dues ++ map f (take i vs)) ++ f v ∷ []) = λ t h. subst AreAscending (whole t) h in
    let both = puts_then old mid new (λ t. AreAscending ((t.dues ++ map f (take i vs))
    ++ f v ∷ [])) (IsPastDues (f v).number) _ (with_due (f v)) (λ t h.
    asc_last (λ (a b : Due). a.number < b.number) (t.dues ++ map f (take i vs)) (f v) h)
    (puts_as old mid (AreAfter (map f (take i vs))) (λ t. AreAscending ((t.dues ++ map f (take i vs))
    ++ f v ∷ [])) (with_more_dues (map f (take i vs))) (with_more_dues (map f (take i vs)))
    (λ t h. asc_front (λ (a b : Due). a.number < b.number) (t.dues ++ map f (take i vs)) (f v ∷ []) h) (λ t h. refl) one) two in
    puts_as old new (λ t. AreAscending ((t.dues ++ map f (take i vs)) ++ f v ∷ [])) (AreAfter (map f (take (i + 1) vs)))
    _ (with_more_dues (map f (take (i + 1) vs))) up (λ t h. ap (λ l. record t { dues = l }) (sym (whole t))) both

-- ---- lines and their due days, one after another

lines-push : (p : Listing) (n day : ℕ) (qs : List (List ℕ)) (q : List ℕ)
    → lines_of p n day (qs ++ q ∷ []) ≡ lines_of p n day qs
    ++ record { number = n + length qs; path = q; due = option_map pos (due_on p q day) } ∷ []
lines-push p n day [] q = ap (λ k. record { number = k; path = q; due = option_map pos (due_on p q day) } ∷ []) (let e : n ≡ n + 0 = omega arith in e)
lines-push p n day (r ∷ qs) q =
    let k : (n + 1) + length qs ≡ n + length (r ∷ qs) = omega arith in
    ap (λ l. record { number = n; path = r; due = option_map pos (due_on p r day) } ∷ l)
    (lines-push p (n + 1) day qs q
    ∙ ap (λ k. lines_of p (n + 1) day qs ++ record { number = k; path = q; due = option_map pos (due_on p q day) }
    ∷ []) k)

pub lines_next : {W : Type 0} (view : W → Line) (p : Listing) (n day : ℕ) (qs : List (List ℕ)) (q : List ℕ) (i : ℕ)
    (ls : List W) (l : W) → i < length qs → q ≡ get_or qs i q
    → map view ls ≡ lines_of p n day (take i qs)
    → view l ≡ record { number = n + i; path = q; due = option_map pos (due_on p q day) }
    → map view (ls ++ l ∷ []) ≡ lines_of p n day (take (i + 1) qs)
lines_next view p n day qs q i ls l low is so_far new =
    let count : length (take i qs) ≡ i = length-take-le i qs (omega arith) in
    let next : take (i + 1) qs ≡ take i qs ++ q ∷ [] = take_more qs i q low ∙ ap (λ x. take i qs ++ x ∷ []) (sym is) in
    map-append view ls (l ∷ []) ∙ (λ i. so_far i ++ new i ∷ [])
    ∙ sym (ap (lines_of p n day) next ∙ lines-push p n day (take i qs) q
    ∙ ap (λ k. lines_of p n day (take i qs)
    ++ record { number = n + k; path = q; due = option_map pos (due_on p q day) } ∷ []) count)

due-append : (n : ℕ) (o : Option ℤ) (xs ys : List Due) → due_before n o (xs ++ ys) ≡ due_before n o xs ++ ys
due-append n None xs ys = refl
due-append n (Some d) xs ys = refl

dues-push : (ls : List Line) (l : Line) → dues_of_lines (ls ++ l ∷ []) ≡ dues_of_lines ls ++ due_before l.number l.due []
dues-push [] l = refl
dues-push (x ∷ ls) l = ap (due_before x.number x.due) (dues-push ls l) ∙ due-append x.number x.due (dues_of_lines ls) (due_before l.number l.due [])

-- one more line's due day, if it has one
pub dues_next : {W : Type 0} (view : W → Line) (ws : List W) (w : W) (i : ℕ) (so_far new : List Due) → i < length ws → w ≡ get_or ws i w
    → so_far ≡ dues_of_lines (map view (take i ws)) → new ≡ so_far ++ due_before (view w).number (view w).due []
    → new ≡ dues_of_lines (map view (take (i + 1) ws))
dues_next view ws w i so_far new low is before one =
    one ∙ ap (λ l. l ++ due_before (view w).number (view w).due []) before ∙ sym (dues-push (map view (take i ws)) (view w))
    ∙ ap dues_of_lines (sym (ap (map view) (take_more ws i w low) ∙ map-append view (take i ws) _
    ∙ ap (λ x. map view (take i ws) ++ view x ∷ []) (sym is)))

-- ---- records, one after another

records-push : (n m day : ℕ) (qs : List (List ℕ)) (q : List ℕ)
    → records_of n m day (qs ++ q ∷ []) ≡ records_of n m day qs
    ++ record { number = n + length qs; message = m; path = q; day = day; destroyed = false } ∷ []
records-push n m day [] q = ap (λ k. record { number = k; message = m; path = q; day = day; destroyed = false }
    ∷ []) (let e : n ≡ n + 0 = omega arith in e)
records-push n m day (p ∷ qs) q =
    let k : (n + 1) + length qs ≡ n + length (p ∷ qs) = omega arith in
    ap (λ l. record { number = n; message = m; path = p; day = day; destroyed = false } ∷ l)
    (records-push (n + 1) m day qs q
    ∙ ap (λ k. records_of (n + 1) m day qs
    ++ record { number = k; message = m; path = q; day = day; destroyed = false } ∷ []) k)

-- the numbers of new records: from the given one on, one for each path
below_all : (n m day : ℕ) (qs : List (List ℕ)) → AllByRecursion (λ (r : Record). (n ≤ r.number) × (r.number < n + length qs)) (records_of n m day qs)
below_all n m day [] = tt
below_all n m day (q ∷ qs) = (
  (omega arith, omega arith),
  all_weaker _ (λ (r : Record). (n ≤ r.number)
      × (r.number < n + length (q ∷ qs))) (λ r h.
      (omega (arith, h.0), omega (arith, h.1))) _ (below_all (n + 1) m day qs),
)

pub no_records : (n day : ℕ) (a : State) → Puts a a (IsPastRecords n) (with_records (records_of n n day []))
no_records n day a = nothing_yet a (IsPastRecords n) (with_records []) (λ t h. ap (λ l. record t { records = l }) (sym (append-nil t.records)))

pub records_next : (old mid new : State) (n day : ℕ) (qs : List (List ℕ)) (q : List ℕ) (i : ℕ) → i < length qs → q ≡ get_or qs i q
    → Puts old mid (IsPastRecords n) (with_records (records_of n n day (take i qs)))
    → Puts mid new (IsPastRecords (n + i)) (with_record (record {
      number = n + i;
      message = n;
      path = q;
      day =
          day;
      destroyed = false;
    }))
    → Puts old new (IsPastRecords n) (with_records (records_of n n day (take (i + 1) qs)))
records_next old mid new n day qs q i low is one two =
    let so_far = take i qs in
    let one_more : Record = record { number = n + i; message = n; path = q; day = day; destroyed = false } in
    let count : length so_far ≡ i = length-take-le i qs (omega arith) in
    let next : take (i + 1) qs ≡ so_far ++ q ∷ [] = take_more qs i q low ∙ ap (λ x. so_far ++ x ∷ []) (sym is) in
    let all : records_of n n day so_far ++ one_more ∷ [] ≡ records_of n n day (take (i + 1) qs) =
    sym (ap (records_of n n day) next ∙ records-push n n day so_far q
    ∙ ap (λ k. records_of n n day so_far
    ++ record { number = n + k; message = n; path = q; day = day; destroyed = false } ∷ []) count) in
    let past : (t : Tables) → IsPastRecords n t → IsPastRecords (n + i) (with_records (records_of n n day so_far) t) =
    λ t h. all-append (λ (r : Record). r.number < n + i) t.records (records_of n n day so_far)
    (all_weaker _ (λ (r : Record). r.number < n + i) (λ r k. omega (arith, k)) t.records h)
    (all_weaker _ (λ (r : Record). r.number < n + i) (λ r k. omega (arith, k.1, count)) _ (below_all n n day so_far)) in
    puts_as old new (IsPastRecords n) (IsPastRecords n) _ (with_records (records_of n n day (take (i + 1) qs))) (λ t h. h)
    (λ t h. ap (λ l. record t { records = l }) (append_assoc t.records (records_of n n day so_far) (one_more ∷ []) ∙ ap (λ l. t.records ++ l) all))
    (puts_then old mid new (IsPastRecords n) (IsPastRecords (n + i)) (with_records (records_of n n day so_far)) (with_record one_more) past one two)

-- a message, its records and their due days
pub puts_capture : (a b c d : State) (n : ℕ) (m : Message) (rs : List Record) (ds : List Due)
    → Puts a b (IsPastMessages n) (with_message m) → Puts b c (IsPastRecords n) (with_records rs)
    → Puts c d (AreAfter ds) (with_more_dues ds)
    → Puts a d (ArePast n ds) (with_captured m rs ds)
puts_capture a b c d n m rs ds one two three =
    let first = puts_as a b (IsPastMessages n) (ArePast n ds) (with_message m) (with_message m) (λ t h. h.0) (λ t h. refl) one in
    let second = puts_then a b c (ArePast n ds) (IsPastRecords n) (with_message m) (with_records rs) (λ t h. h.1) first two in
    puts_then a c d (ArePast n ds) (AreAfter ds) (λ t. with_records rs (with_message m t)) (with_more_dues ds) (λ t h. h.2) second three

-- ---- the archive

-- the next number is not below the first, and is above those of all records
least : (n : ℕ) (rs : List Record) → n ≤ past_all n rs
least n [] = omega arith
least n (r ∷ rs) = omega (arith, least (max n (r.number + 1)) rs)

past : (n : ℕ) (rs : List Record) → AllByRecursion (λ (r : Record). r.number < past_all n rs) rs
past n [] = tt
past n (r ∷ rs) = (omega (arith, least (max n (r.number + 1)) rs), past (max n (r.number + 1)) rs)

past-append : (n : ℕ) (rs ss : List Record) → past_all n (rs ++ ss) ≡ past_all (past_all n rs) ss
past-append n [] ss = refl
past-append n (r ∷ rs) ss = past-append (max n (r.number + 1)) rs ss

past-new : (n m day : ℕ) (qs : List (List ℕ)) → past_all n (records_of n m day qs) ≡ n + length qs
past-new n m day [] = omega arith
past-new n m day (q ∷ qs) =
    let top : max n (n + 1) ≡ n + 1 = omega arith in
    let count : (n + 1) + length qs ≡ n + length (q ∷ qs) = omega arith in
    ap (λ k. past_all k (records_of (n + 1) m day qs)) top ∙ past-new (n + 1) m day qs ∙ count

pub next_after : (a : Archive) (body : List ℕ) (day : ℕ) (q : List ℕ) (qs : List (List ℕ))
    → next_number (after_capture a body day (q ∷ qs)) ≡ next_number a + length (q ∷ qs)
next_after a body day q qs = past-append 1 a.records (new_records a day (q ∷ qs)) ∙ past-new (next_number a) (next_number a) day (q ∷ qs)

-- the lines of new records
pub lines_are : (a : Archive) (n m day : ℕ) (qs : List (List ℕ)) → map (line_of a) (records_of n m day qs) ≡ lines_of a.plan n day qs
lines_are a n m day [] = refl
lines_are a n m day (q ∷ qs) = ap (λ l. record { number = n; path = q; due = option_map pos (due_on a.plan q day) }
    ∷ l) (lines_are a (n + 1) m day qs)

-- the due days of new records
dues_are : (a : Archive) (n m day : ℕ) (qs : List (List ℕ))
    → map (due_row a) (filter (has_due a) (records_of n m day qs)) ≡ dues_of_lines (lines_of a.plan n day qs)
dues_are a n m day [] = refl
dues_are a n m day (q ∷ qs) = go (due_on a.plan q day) refl (dues_are a (n + 1) m day qs)
  where
    new : Record
    new = record { number = n; message = m; path = q; day = day; destroyed = false }

    go : (o : Option ℕ) → due_on a.plan q day ≡ o → map (due_row a) (filter (has_due a) (records_of (n + 1) m day qs))
        ≡ dues_of_lines (lines_of a.plan (n + 1) day qs)
        → map (due_row a) (cond (is_some o) (new ∷ filter (has_due a) (records_of (n + 1) m day qs))
        (filter (has_due a) (records_of (n + 1) m day qs)))
        ≡ due_before n (option_map pos o) (dues_of_lines (lines_of a.plan (n + 1) day qs))
    go None is more = more
    go (Some d) is more = (λ i. record { number = n; day = unwrap_or (is i) 0 } ∷ more i)

any_left : {X : Type 0} (p : X → Bool) (xs ys : List X) → list_any p xs ≡ true → list_any p (xs ++ ys) ≡ true
any_left p [] ys h = absurd (true≢false (sym h))
any_left p (x ∷ xs) ys h = go (p x) h (any_left p xs ys)
  where
    go : (b : Bool) → (b || list_any p xs) ≡ true → (list_any p xs ≡ true → list_any p (xs ++ ys) ≡ true) → (b || list_any p (xs ++ ys)) ≡ true
    go true h more = refl
    go false h more = more h

any_right : {X : Type 0} (p : X → Bool) (xs ys : List X) → list_any p ys ≡ true → list_any p (xs ++ ys) ≡ true
any_right p [] ys h = h
any_right p (x ∷ xs) ys h = go (p x) (any_right p xs ys h)
  where
    go : (b : Bool) → list_any p (xs ++ ys) ≡ true → (b || list_any p (xs ++ ys)) ≡ true
    go true more = refl
    go false more = more

same_number : (n : ℕ) → (n == n) ≡ true
same_number n = grind arith

-- what holds of the messages of an archive, by the records that name them
named_below : (rs : List Record) (m n : ℕ) → AllByRecursion (λ (r : Record). r.message < n) rs → is_named rs m ≡ true → m < n
named_below [] m n all h = absurd (true≢false (sym h))
named_below (r ∷ rs) m n all h = go (is_live r) (r.message == m) refl h (named_below rs m n all.1)
  where
    is_it : (r.message == m) ≡ true → m < n
    is_it is = let low = all.0 in grind arith

    go : (l b : Bool) → (r.message == m) ≡ b → ((l && b) || is_named rs m) ≡ true → (is_named rs m ≡ true → m < n) → m < n
    go true true is h more = is_it is
    go true false is h more = more h
    go false b is h more = more h

messages_past : (a : Archive) → IsArchive a → AllByRecursion (λ (r : Record). r.message < next_number a) a.records
messages_past a is = both a.records (recursion_from_All (IsRecord a) a.records is.records) (past 1 a.records)
  where
    both : (rs : List Record) → AllByRecursion (IsRecord a) rs
        → AllByRecursion (λ (r : Record). r.number < next_number a) rs
        → AllByRecursion (λ (r : Record). r.message < next_number a) rs
    both [] h k = tt
    both (r ∷ rs) h k = (omega (arith, h.0.message.1, k.0), both rs h.1 k.1)

pub past_messages : (a : Archive) → IsArchive a → AllByRecursion (λ (m : Message). m.number < next_number a) a.messages
past_messages a is = all_weaker (λ (m : Message). is_named a.records m.number ≡ true) (λ (m : Message).
    m.number < next_number a) (λ m h. named_below a.records m.number (next_number a) (messages_past a is) h) a.messages
    (recursion_from_All _ a.messages is.named)

-- the new records are an archive's, beside the new message
new_are : (b : Archive) (m day : ℕ) → 1 ≤ m → day ≤ 84005 → has_message b.messages m ≡ true
    → (n : ℕ) (qs : List (List ℕ)) → m ≤ n → n + length qs ≤ 2 ^ 32 → AllByRecursion (λ q. has b.plan.rows q ≡ true) qs
    → AllByRecursion (IsRecord b) (records_of n m day qs)
new_are b m day one low there n [] from room classes = tt
new_are b m day one low there n (q ∷ qs) from room classes = (
  record { number = (omega arith, omega arith); message = (one, from); day = low; class = classes.0; stored = λ live. there },
  new_are b m day one low there (n + 1) qs (omega arith) (omega arith) classes.1,
)

new_rise : (n m day : ℕ) (qs : List (List ℕ)) → IsAscending (λ (x y : Record). x.number < y.number) (records_of n m day qs)
new_rise n m day [] = tt
new_rise n m day (q ∷ qs) = (
  all_weaker (λ (r : Record). ((n + 1) ≤ r.number) × (r.number < (n + 1) + length qs)) (λ (r : Record).
      n < r.number) (λ r h. omega (arith, h.0)) (records_of (n + 1) m day qs) (below_all (n + 1) m day qs),
  new_rise (n + 1) m day qs,
)

records_rise : (a : Archive) → IsArchive a → (body : List ℕ) (day : ℕ) (q : List ℕ) (qs : List (List ℕ))
    → IsAscending (λ (x y : Record). x.number < y.number) (after_capture a body day (q ∷ qs)).records
records_rise a is body day q qs =
    let n = next_number a in
    ascending-append (λ (x y : Record). x.number < y.number) a.records (new_records a day (q ∷ qs)) is.in_order (new_rise n n day (q ∷ qs))
    (all_weaker (λ (x : Record). x.number < n) (λ (x : Record). AllByRecursion (λ (y : Record). x.number < y.number) (new_records a day (q ∷ qs)))
    (λ x low. all_weaker (λ (y : Record). (n ≤ y.number) × (y.number < n + length (q ∷ qs))) (λ (y : Record).
    x.number < y.number) (λ y h. omega (arith, low, h.0)) (new_records a day (q ∷ qs)) (below_all n n day (q ∷ qs)))
    a.records (past 1 a.records))

pub captured_is_archive : (a : Archive) (body : List ℕ) (day : ℕ) (q : List ℕ) (qs : List (List ℕ)) → IsArchive a
    → day ≤ 84005 → next_number a + length (q ∷ qs) ≤ 2 ^ 32 → All (λ p. has a.plan.rows p ≡ true) (q ∷ qs)
    → IsArchive (after_capture a body day (q ∷ qs))
captured_is_archive a body day q qs is low room classes =
    let n = next_number a in
    let b = after_capture a body day (q ∷ qs) in
    let new : Message = record { number = n; body = body } in
    let there : has_message b.messages n ≡ true =
    any_right (λ (m : Message). m.number == n) a.messages (new ∷ []) (ap (λ b. b || false) (same_number n)) in
    let one : 1 ≤ n = least 1 a.records in
    let old : AllByRecursion (IsRecord b) a.records = all_weaker (IsRecord a) (IsRecord b)
    (λ r h. record {
      number = h.number;
      message = h.message;
      day = h.day;
      class = h.class;
      stored = λ live.
          any_left (λ (m : Message). m.number == r.message) a.messages (new ∷ []) (h.stored live);
    })
    a.records (recursion_from_All (IsRecord a) a.records is.records) in
    let more : AllByRecursion (IsRecord b) (new_records a day (q ∷ qs)) =
    new_are b n day one low there n (q ∷ qs) (omega arith) room (recursion_from_All _ (q ∷ qs) classes) in
    record {
      plan = is.plan;
      records = All-from_recursion (IsRecord b) b.records (all-append (IsRecord b) a.records (new_records a day (q ∷ qs)) old more);
      in_order = records_rise a is body day q qs;
      messages = ascending-append (λ (x y : Message). x.number < y.number) a.messages (new ∷ []) is.messages (
        tt,
        tt,
      ) (all_weaker (λ (m : Message). m.number < n) (λ (m : Message).
          AllByRecursion (λ (y : Message). m.number < y.number) (new ∷ [])) (λ m h.
          (h, tt)) a.messages (past_messages a is));
      named = All-push (λ (m : Message). is_named b.records m.number ≡ true) a.messages new
          (All-weaker (λ (m : Message). is_named a.records m.number ≡ true) (λ (m : Message).
          is_named b.records m.number ≡ true) (λ m h.
          any_left (λ (r : Record). is_live r && (r.message == m.number)) a.records (new_records a day (q ∷ qs)) h)
          a.messages is.named)
          (any_right (λ (r : Record). is_live r && (r.message == n)) a.records (new_records a day (q ∷ qs)) (ap (λ c.
          c || is_named (records_of (n + 1) n day qs) n) (same_number n)));
      held = All-weaker (λ (h : Hold). list_any (λ (r : Record). is_live r && has_number h.number r) a.records
          ≡ true) (λ (h : Hold). list_any (λ (r : Record). is_live r && has_number h.number r) b.records ≡ true)
          (λ h k. any_left (λ (r : Record). is_live r && has_number h.number r) a.records (new_records a day (q ∷ qs)) k) a.holds is.held;
      once = is.once;
    }

-- ---- counts

none_live : (rs : List Record) (n : ℕ) → AllByRecursion (λ (r : Record). r.message < n) rs
    → tally (λ (r : Record). is_live r && (r.message == n)) rs ≡ 0
none_live [] n all = refl
none_live (r ∷ rs) n all = go (is_live r) (none_live rs n all.1)
  where
    apart : (r.message == n) ≡ false
    apart = let low = all.0 in grind arith

    go : (l : Bool) → tally (λ (r : Record). is_live r && (r.message == n)) rs ≡ 0
        → cond {A = ℕ} (l && (r.message == n)) 1 0 + tally (λ (r : Record). is_live r && (r.message == n)) rs ≡ 0
    go true more =
        let none : cond {A = ℕ} (r.message == n) 1 0 ≡ 0 = ap (λ b. cond {A = ℕ} b 1 0) apart in
        let step : cond {A = ℕ} (r.message == n) 1 0 + tally (λ (r : Record). is_live r && (r.message == n)) rs ≡ 0 = omega (arith, none, more) in
        step
    go false more = let step : 0 + tally (λ (r : Record). is_live r && (r.message == n)) rs ≡ 0 = omega (arith, more) in step

count_new : (k n day m : ℕ) (qs : List (List ℕ))
    → tally (λ (r : Record). is_live r && (r.message == m)) (records_of k n day qs) ≡ only_at n (length qs) m
count_new k n day m [] = go (m == n)
  where
    go : (b : Bool) → ◌≡◌ {A = ℕ} 0 (cond b 0 0)
    go true = refl
    go false = refl
count_new k n day m (q ∷ qs) = go (m == n) refl (count_new (k + 1) n day m qs)
  where
    other : (n == m) ≡ (m == n)
    other = grind arith

    go : (b : Bool) → (m == n) ≡ b → tally (λ (r : Record). is_live r && (r.message == m)) (records_of (k + 1) n day qs) ≡ cond b (length qs) 0
        → cond {A = ℕ} (n == m) 1 0 + tally (λ (r : Record). is_live r && (r.message == m)) (records_of (k + 1) n day qs) ≡ cond b (length (q ∷ qs)) 0
    go true is more = let one : cond {A = ℕ} (n == m) 1 0 ≡ 1 = ap (λ b. cond {A = ℕ} b 1 0) (other ∙ is) in omega (arith, one, more)
    go false is more = let none : cond {A = ℕ} (n == m) 1 0 ≡ 0 = ap (λ b. cond {A = ℕ} b 1 0) (other ∙ is) in omega (arith, none, more)

-- the live records of each message after a capture
pub count_captured : (a : Archive) (body : List ℕ) (day : ℕ) (q : List ℕ) (qs : List (List ℕ)) → IsArchive a → (m : ℕ)
    → live_count (after_capture a body day (q ∷ qs)) m - 1
    ≡ (live_count a m - 1) + only_at (next_number a) (length qs) m
count_captured a body day q qs is m =
    let n = next_number a in
    let whole : live_count (after_capture a body day (q ∷ qs)) m ≡ live_count a m + only_at n (length (q ∷ qs)) m =
    tally-append (λ (r : Record). is_live r && (r.message == m)) a.records (new_records a day (q ∷ qs))
    ∙ ap (λ k. live_count a m + k) (count_new n n day m (q ∷ qs)) in
    go (m == n) refl whole
  where
    go : (b : Bool) → (m == next_number a) ≡ b
        → live_count (after_capture a body day (q ∷ qs)) m ≡ live_count a m + cond b (length (q ∷ qs)) 0
        → live_count (after_capture a body day (q ∷ qs)) m - 1 ≡ (live_count a m - 1) + cond b (length qs) 0
    go true e whole =
        let same : m ≡ next_number a = grind arith in
        let none : live_count a m ≡ 0 =
        none_live a.records m (subst (λ k. AllByRecursion (λ (r : Record). r.message < k) a.records) (sym same)
        (messages_past a is)) in
        omega (arith, none, whole)
    go false e whole = omega (arith, whole)

-- ---- the tables

filter-both : {X : Type 0} (p : X → Bool) (xs ys : List X) → filter p (xs ++ ys) ≡ filter p xs ++ filter p ys
filter-both p [] ys = refl
filter-both p (x ∷ xs) ys = go (p x) (filter-both p xs ys)
  where
    go : (b : Bool) → filter p (xs ++ ys) ≡ filter p xs ++ filter p ys
        → cond b (x ∷ filter p (xs ++ ys)) (filter p (xs ++ ys)) ≡ cond b (x ∷ filter p xs) (filter p xs)
        ++ filter p ys
    go true more = ap (λ l. x ∷ l) more
    go false more = more

-- the due days of the new records come after those that were there
dues_after : (a : Archive) (body : List ℕ) (day : ℕ) (q : List ℕ) (qs : List (List ℕ))
    → due_rows a ++ dues_of_lines (lines_of a.plan (next_number a) day (q ∷ qs)) ≡ due_rows (after_capture a body day (q ∷ qs))
dues_after a body day q qs =
    let n = next_number a in
    let rs = new_records a day (q ∷ qs) in
    ap (λ l. due_rows a ++ l) (sym (dues_are a n n day (q ∷ qs)))
    ∙ sym (map-append (due_row a) (filter (has_due a) a.records) (filter (has_due a) rs))
    ∙ ap (map (due_row a)) (sym (filter-both (has_due a) a.records rs))

pub past_captured : (a : Archive) (body : List ℕ) (day : ℕ) (q : List ℕ) (qs : List (List ℕ)) → IsArchive a
    → (was : Database) → (s : StoresArchive was a)
    → ArePast (next_number a) (dues_of_lines (lines_of a.plan (next_number a) day (q ∷ qs))) s.tables
past_captured a body day q qs is was s =
    let n = next_number a in
    let b = after_capture a body day (q ∷ qs) in
    let rs = new_records a day (q ∷ qs) in
    let ds = dues_of_lines (lines_of a.plan n day (q ∷ qs)) in
    let rise : AreAscending (due_rows b) = ascending-map (λ (x y : Due). x.number < y.number) (due_row b) (filter (has_due b) b.records)
    (ascending-filter (λ (x y : Record). x.number < y.number) (has_due b) b.records (records_rise a is body day q qs)) in
    let after : AreAscending (s.tables.dues ++ ds) = subst AreAscending (sym (ap (λ l. l ++ ds) s.dues ∙ dues_after a body day q qs)) rise in (
      subst (AllByRecursion (λ (m : Message). m.number < n)) (sym s.keeps.messages) (past_messages a is),
      subst (AllByRecursion (λ (r : Record). r.number < n)) (sym s.keeps.records) (past 1 a.records),
      after,
    )

pub stores_captured : (a : Archive) (body : List ℕ) (day : ℕ) (q : List ℕ) (qs : List (List ℕ)) → IsArchive a
    → (was db : Database) → StoresArchive was a
    → Turns was db (ArePast (next_number a) (dues_of_lines (lines_of a.plan (next_number a) day (q ∷ qs))))
    (with_captured (record { number = next_number a; body = body }) (new_records a day (q ∷ qs))
    (dues_of_lines (lines_of a.plan (next_number a) day (q ∷ qs))))
    → StoresArchive db (after_capture a body day (q ∷ qs))
stores_captured a body day q qs is was db s turns =
    let n = next_number a in
    let b = after_capture a body day (q ∷ qs) in
    let rs = new_records a day (q ∷ qs) in
    let ds = dues_of_lines (lines_of a.plan n day (q ∷ qs)) in
    let new : Message = record { number = n; body = body } in
    let made = turns.stored s.tables s.stored s.keyed (past_captured a body day q qs is was s) in
    record {
      tables = with_captured new rs ds s.tables;
      stored = made.0;
      keyed = made.1;
      keeps = record {
        messages = ap (λ l. l ++ new ∷ []) s.keeps.messages;
        records = ap (λ l. l ++ rs) s.keeps.records;
        holds = s.keeps.holds;
        settings = s.keeps.settings;
        classes = s.keeps.classes;
        schedules = s.keeps.schedules;
      };
      dues = ap (λ l. l ++ ds) s.dues ∙ dues_after a body day q qs;
    }
