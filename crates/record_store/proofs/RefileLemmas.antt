-- What another class of a record makes of the archive and of the tables.
use Rattle.std.proofs.Common.{◌≡◌, ◌<◌, ◌+◌, ◌==◌, ℕ, max, pos, int_eq, int_cmp, Less, Greater, Bool, true, false, not, cond, ◌&&◌}
use Rattle.std.proofs.Common.{is_some, unwrap_or, List, [], ◌∷◌, map, filter, find, Option, Some, None, Ok}
use Rattle.std.proofs.Common.{refl, sym, ap, ◌∙◌, arith}
use Rattle.std.specs.Ordering.{match_ordering}
use Rattle.std.specs.List.{AllByRecursion, list_any}
use Rattle.std.proofs.lemmas.Int.{ints}
use Rattle.std.proofs.lemmas.List.Elements.{All-from_recursion, recursion_from_All}
use Rattle.sqlite_trees.specs.Tree.{IsAscending}
use Rattle.sqlite_keyed.specs.Keyed.{insert_by}
use Rattle.sqlite_keyed.specs.Lists.{update_where}
use Rattle.sqlite_keyed.proofs.ListLemmas.{all_weaker, all_map, all-filter, ascending-map, ascending_weaker}
use Rattle.sqlite.specs.Effect.{Database}
use Rattle.class_plan.specs.Calendar.{due_on}
use Rattle.class_plan.specs.Plans.{has}
use Rattle.record_archive.specs.Archive.{Message, Record, Archive, Hold, IsArchive, IsRecord, record_at, has_number}
use Rattle.record_archive.specs.Archive.{is_live, is_named, next_number, past_all}
use Rattle.record_archive.specs.Refiling.{in_class, refile, refiled}
use Rattle.record_tables.specs.Rows.{Due, StoresKeyed, Tables, due_key}
use Rattle.record_tables.specs.Changes as tables
use Rattle.record_adoption.specs.Keeping.{StoresArchive, has_due, due_row, live_count}
use Rattle.record_store.specs.Refiling.{IsRefiling, IsRefilingOf}
use Rattle.record_store.proofs.Causes.{found_all}
use Rattle.record_store.proofs.DestroyLemmas.{later_number, tally-map, gone, dues_but, dues_of, dues_without}
use Rattle.record_store.proofs.HoldLemmas.{any-map, found_passes, is_number, same_number}

-- ---- records of which one has another class

abbrev moved_if : Bool → List ℕ → Record → Record
moved_if b q x = cond b (in_class q x) x

-- the records, with the one of this number in another class
abbrev moved : ℕ → List ℕ → List Record → List Record
moved n q rs = update_where (has_number n) (in_class q) rs

abbrev Below : Record → Record → Type 0
Below x y = x.number < y.number

same_place : (b : Bool) (q : List ℕ) (x : Record) → (moved_if b q x).number ≡ x.number
same_place true q x = refl
same_place false q x = refl

past_moved : (n : ℕ) (q : List ℕ) (k : ℕ) (rs : List Record) → past_all k (moved n q rs) ≡ past_all k rs
past_moved n q k [] = refl
past_moved n q k (x ∷ rs) = ap (λ j. past_all (max k (j + 1)) (moved n q rs)) (same_place (x.number == n) q x)
    ∙ past_moved n q (max k (x.number + 1)) rs

-- the next number is as before
pub next_refiled : (a : Archive) (n : ℕ) (q : List ℕ) → next_number (refiled a n q) ≡ next_number a
next_refiled a n q = past_moved n q 1 a.records

-- a live record of the message
abbrev names : ℕ → Record → Bool
names m x = is_live x && (x.message == m)

names_same : (n : ℕ) (q : List ℕ) (m : ℕ) (x : Record) → names m x ≡ names m (moved_if (x.number == n) q x)
names_same n q m x = go (x.number == n)
  where
    go : (b : Bool) → names m x ≡ names m (moved_if b q x)
    go true = refl
    go false = refl

named_same : (n : ℕ) (q : List ℕ) (m : ℕ) (rs : List Record) → is_named rs m ≡ is_named (moved n q rs) m
named_same n q m rs = any-map (names m) (names m) (λ (x : Record). moved_if (x.number == n) q x) (names_same n q m) rs

-- so are the live records of each message
pub count_refiled : (a : Archive) (n : ℕ) (q : List ℕ) (m : ℕ) → live_count (refiled a n q) m ≡ live_count a m
count_refiled a n q m = sym (tally-map (names m) (names m) (λ (x : Record). moved_if (x.number == n) q x) (names_same n q m) a.records)

-- the live record of this number
abbrev is_on : ℕ → Record → Bool
is_on k x = is_live x && has_number k x

on_same : (n : ℕ) (q : List ℕ) (k : ℕ) (rs : List Record) → list_any (is_on k) rs ≡ list_any (is_on k) (moved n q rs)
on_same n q k rs = any-map (is_on k) (is_on k) (λ (x : Record). moved_if (x.number == n) q x) (λ x. go x (x.number == n)) rs
  where
    go : (x : Record) (b : Bool) → is_on k x ≡ is_on k (moved_if b q x)
    go x true = refl
    go x false = refl

-- ---- the archive

module _ (a : Archive) (n : ℕ) (q : List ℕ) (is : IsArchive a) (class : has a.plan.rows q ≡ true) where
  record_after : (x : Record) → IsRecord a x → IsRecord (refiled a n q) (moved_if (x.number == n) q x)
  record_after x h = go (x.number == n)
    where
      go : (b : Bool) → IsRecord (refiled a n q) (moved_if b q x)
      go true = record { number = h.number; message = h.message; day = h.day; class = class; stored = h.stored }
      go false = record { number = h.number; message = h.message; day = h.day; class = h.class; stored = h.stored }

  pub refiled_is_archive : IsArchive (refiled a n q)
  refiled_is_archive = record {
    plan = is.plan;
    records = All-from_recursion (IsRecord (refiled a n q)) (moved n q a.records)
        (all_map (IsRecord (refiled a n q)) (λ (x : Record). moved_if (x.number == n) q x) a.records
        (all_weaker (IsRecord a) (λ (x : Record). IsRecord (refiled a n q) (moved_if (x.number == n) q x)) record_after a.records
        (recursion_from_All (IsRecord a) a.records is.records)));
    in_order = ascending-map Below (λ (x : Record). moved_if (x.number == n) q x) a.records
        (ascending_weaker Below (λ (x y : Record). Below (moved_if (x.number == n) q x) (moved_if (y.number == n) q y))
        (λ x y low. omega (arith, low, same_place (x.number == n) q x, same_place (y.number == n) q y)) a.records is.in_order);
    messages = is.messages;
    named = All-from_recursion _ a.messages
        (all_weaker (λ (m : Message). is_named a.records m.number ≡ true) (λ (m : Message). is_named (moved n q a.records) m.number ≡ true)
        (λ m h. sym (named_same n q m.number a.records) ∙ h) a.messages (recursion_from_All _ a.messages is.named));
    held = All-from_recursion _ a.holds
        (all_weaker (λ (h : Hold). list_any (is_on h.number) a.records ≡ true)
        (λ (h : Hold). list_any (is_on h.number) (moved n q a.records) ≡ true)
        (λ h on. sym (on_same n q h.number a.records) ∙ on) a.holds (recursion_from_All _ a.holds is.held));
    once = is.once;
  }

-- ---- the due days

-- the due days with that of the record, if there is one, at its place
abbrev put_if : ℕ → Option ℕ → List Due → List Due
put_if n None ds = ds
put_if n (Some day) ds = insert_by due_key ds (record { number = n; day = day })

put_later : (n : ℕ) (due : Option ℕ) (d : Due) (ds : List Due) → d.number < n → put_if n due (d ∷ ds) ≡ d ∷ put_if n due ds
put_later n None d ds low = refl
put_later n (Some day) d ds low =
    let new : Due = record { number = n; day = day } in
    let less : int_cmp (pos d.number) (pos n) ≡ Less = grind (arith, ints) in
    ap (λ o. match_ordering o (d ∷ insert_by due_key ds new) (new ∷ ds) (new ∷ d ∷ ds)) less

put_first : (n day : ℕ) (ds : List Due) → AllByRecursion (λ (d : Due). n < d.number) ds
    → insert_by due_key ds (record { number = n; day = day }) ≡ record { number = n; day = day } ∷ ds
put_first n day [] h = refl
put_first n day (d ∷ ds) h =
    let new : Due = record { number = n; day = day } in
    let above = h.0 in
    let greater : int_cmp (pos d.number) (pos n) ≡ Greater = grind (arith, ints) in
    ap (λ o. match_ordering o (d ∷ insert_by due_key ds new) (new ∷ ds) (new ∷ d ∷ ds)) greater

-- the due days of records, the first of which has a due day or none
abbrev first_due : Archive → Bool → Record → List Record → List Due
first_due a b x rs = map (due_row a) (cond b (x ∷ filter (has_due a) rs) (filter (has_due a) rs))

first_moved : (a : Archive) (n : ℕ) (q : List ℕ) (r : Record) (due : Option ℕ) → due ≡ due_on a.plan q r.day → r.destroyed ≡ false
    → r.number ≡ n → (rs : List Record) → AllByRecursion (λ (y : Record). n < y.number) rs
    → put_if n due (dues_of a rs) ≡ dues_of a (in_class q r ∷ rs)
first_moved a n q r None day live own rs above =
    let none : has_due a (in_class q r) ≡ false = λ i. not (live i) && is_some (sym day i) in
    ap (λ b. first_due a b (in_class q r) rs) (sym none)
first_moved a n q r (Some d) day live own rs above =
    let some : has_due a (in_class q r) ≡ true = λ i. not (live i) && is_some (sym day i) in
    let new : Due = record { number = n; day = d } in
    let row : new ≡ due_row a (in_class q r) = λ i. record { number = sym own i; day = unwrap_or (day i) 0 } in
    let later : AllByRecursion (λ (d : Due). n < d.number) (dues_of a rs) =
    all_map (λ (d : Due). n < d.number) (due_row a) (filter (has_due a) rs) (all-filter (λ (y : Record). n < y.number) (has_due a) rs above) in
    put_first n d (dues_of a rs) later ∙ ap (λ d. d ∷ dues_of a rs) row ∙ ap (λ b. first_due a b (in_class q r) rs) (sym some)

kept_where : {X : Type 0} (p : X → Bool) (f : X → X) (xs : List X) → AllByRecursion (λ x. p x ≡ false) xs → update_where p f xs ≡ xs
kept_where p f [] h = refl
kept_where p f (x ∷ xs) h = let one = h.0 in let more = kept_where p f xs h.1 in λ i. cond (one i) (f x) x ∷ more i

-- the due day of a record is replaced where the record gets another class
abbrev FollowsClass : Archive → ℕ → List ℕ → Option ℕ → List Record → Type 0
FollowsClass a n q due rs = put_if n due (dues_of a (gone n rs)) ≡ dues_of a (moved n q rs)

dues_moved : (a : Archive) (n : ℕ) (q : List ℕ) (r : Record) (due : Option ℕ) → due ≡ due_on a.plan q r.day → r.destroyed ≡ false
    → (rs : List Record) → IsAscending Below rs → find (has_number n) rs ≡ Some r → FollowsClass a n q due rs
dues_moved a n q r due day live [] up at = absurd cc
dues_moved a n q r due day live (x ∷ rs) up at = go (x.number == n) refl at (dues_moved a n q r due day live rs up.1)
  where
    other : (h : Bool) → has_due a x ≡ h → x.number < n → FollowsClass a n q due rs
        → put_if n due (first_due a h x (gone n rs)) ≡ dues_of a (x ∷ moved n q rs)
    other true is low more = put_later n due (due_row a x) (dues_of a (gone n rs)) low ∙ ap (λ l. due_row a x ∷ l) more
        ∙ ap (λ b. first_due a b x (moved n q rs)) (sym is)
    other false is low more = more ∙ ap (λ b. first_due a b x (moved n q rs)) (sym is)

    go : (b : Bool) → (x.number == n) ≡ b → cond b (Some x) (find (has_number n) rs) ≡ Some r
        → (find (has_number n) rs ≡ Some r → FollowsClass a n q due rs)
        → put_if n due (dues_of a (cond b (record x { destroyed = true }) x ∷ gone n rs)) ≡ dues_of a (moved_if b q x ∷ moved n q rs)
    go true is at more =
        let here : x ≡ r = cc in
        let own : x.number ≡ n = is_number x.number n is in
        let above : AllByRecursion (λ (y : Record). n < y.number) rs =
        all_weaker (Below x) (λ (y : Record). n < y.number) (λ y low. omega (arith, own, low)) rs up.0 in
        let apart : AllByRecursion (λ (y : Record). (y.number == n) ≡ false) rs =
        all_weaker (λ (y : Record). n < y.number) (λ (y : Record). (y.number == n) ≡ false) (λ y low. later_number y.number n low) rs above in
        ap (λ l. put_if n due (dues_of a l)) (kept_where (has_number n) _ rs apart)
        ∙ first_moved a n q x due (day ∙ ap (λ (y : Record). due_on a.plan q y.day) (sym here)) (ap (λ (y : Record). y.destroyed) here ∙ live)
        own rs above
        ∙ ap (λ l. dues_of a (in_class q x ∷ l)) (sym (kept_where (has_number n) (in_class q) rs apart))
    go false is at more =
        let below : x.number < r.number = found_all (Below x) (has_number n) rs r up.0 at in
        let own : r.number ≡ n = is_number r.number n (found_passes (has_number n) rs r at) in
        other (has_due a x) refl (omega (arith, below, own)) (more at)

-- ---- the tables

records_moved : (n : ℕ) (q : List ℕ) (rs : List Record)
    → update_where (λ (r : Record). int_eq (pos r.number) (pos n)) (tables.in_class q) rs ≡ moved n q rs
records_moved n q [] = refl
records_moved n q (x ∷ rs) = λ i. moved_if (same_number x.number n i) q x ∷ records_moved n q rs i

-- the tables with the record in another class, and with these due days
abbrev with_days : ℕ → List ℕ → List Due → Tables → Tables
with_days n q ds t = record (tables.with_path n q t) { dues = ds }

stores_moved : (a : Archive) (n : ℕ) (q : List ℕ) (was db : Database) (s : StoresArchive was a) (ds : List Due)
    → ds ≡ dues_of a (moved n q a.records) → StoresKeyed db (with_days n q ds s.tables) → StoresArchive db (refiled a n q)
stores_moved a n q was db s ds same made = record {
  tables = with_days n q ds s.tables;
  stored = made.0;
  keyed = made.1;
  keeps = record {
    messages = s.keeps.messages;
    records = ap (update_where (λ (r : Record). int_eq (pos r.number) (pos n)) (tables.in_class q)) s.keeps.records
        ∙ records_moved n q a.records;
    holds = s.keeps.holds;
    settings = s.keeps.settings;
    classes = s.keeps.classes;
    schedules = s.keeps.schedules;
  };
  dues = same;
}

days_moved : (a : Archive) (n : ℕ) (q : List ℕ) (due : Option ℕ) (ds : List Due) → IsArchive a → IsRefiling a n q due
    → ds ≡ dues_of a a.records → put_if n due (dues_but n ds) ≡ dues_of a (moved n q a.records)
days_moved a n q due ds is it same =
    ap (λ l. put_if n due (dues_but n l)) same ∙ ap (put_if n due) (dues_without a n a.records)
    ∙ dues_moved a n q it.at due it.due_is it.live a.records is.in_order it.found

pub stores_refiled : (a : Archive) (n : ℕ) (q : List ℕ) (due : Option ℕ) → IsArchive a → IsRefiling a n q due → (was db : Database)
    → StoresArchive was a → IsRefilingOf n q due was db → StoresArchive db (refiled a n q)
stores_refiled a n q None is it was db s turns =
    stores_moved a n q was db s (dues_but n s.tables.dues) (days_moved a n q None s.tables.dues is it s.dues)
    (turns.stored s.tables s.stored s.keyed tt)
stores_refiled a n q (Some day) is it was db s turns =
    stores_moved a n q was db s (insert_by due_key (dues_but n s.tables.dues) (record { number = n; day = day }))
    (days_moved a n q (Some day) s.tables.dues is it s.dues) (turns.stored s.tables s.stored s.keyed tt)

-- ---- the judge

pub is_refiled : (a : Archive) (n : ℕ) (q : List ℕ) (r : Record) → record_at a n ≡ Some r → r.destroyed ≡ false
    → has a.plan.rows q ≡ true → refile a n q ≡ Ok (refiled a n q)
is_refiled a n q r at live class = rw (at, live, class) refl
