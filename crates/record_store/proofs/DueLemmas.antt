-- The due list is that of the stored due days, in their order.
use Rattle.std.proofs.Common.{◌≡◌, ◌<◌, ◌≤◌, ◌+◌, ◌^◌, ◌==◌, ℕ, zero, suc, pos, Bool, true, false, not, ◌&&◌, ◌||◌}
use Rattle.std.proofs.Common.{cond, List, [], ◌∷◌, ◌++◌, length, map, filter, flat_map, Option, Some, None, is_some}
use Rattle.std.proofs.Common.{option_map, unwrap_or, refl, sym, ap, ap₂, subst, append_assoc, ◌∙◌, arith, Ordering}
use Rattle.std.proofs.Common.{is_eq, int_cmp, int_eq, int_le, nat_le, nat_cmp, true≢false}
use Rattle.std.proofs.lemmas.List.{map-append}
use Rattle.record_adoption.specs.Counts.{tally}
use Rattle.std.specs.List.{AllByRecursion, list_any}
use Rattle.std.specs.Cmp.{IsTotalOrder}
use Rattle.std.specs.Ordering.{ordering_then}
use Rattle.std.proofs.lemmas.Cmp.{int_cmp_total, on_total, then_total}
use Rattle.std.proofs.lemmas.List.Elements.{recursion_from_All}
use Rattle.std.proofs.lemmas.Int.{ints}
use Rattle.sqlite_trees.specs.Tree.{IsAscending}
use Rattle.sqlite_keyed.specs.Lists.{sort_by}
use Rattle.sqlite_keyed.proofs.KeyedLemmas.{Less-from_lt}
use Rattle.sqlite_typed.proofs.AnswerLemmas.{no_tie, no_tie_after}
use Rattle.sqlite_keyed.proofs.ListLemmas.{all_both, all_weaker, all_map, all-filter, all-map, all-flat_map}
use Rattle.sqlite_keyed.proofs.ListLemmas.{ascending-filter, ascending_weaker, filter-map, filter_none, filter_same}
use Rattle.sqlite_keyed.proofs.ListLemmas.{flat_map-map, map-map}
use Rattle.sqlite_keyed.proofs.SortLemmas.{sort_by-map}
use Rattle.sqlite.specs.Effect.{Database}
use Rattle.record_archive.specs.Archive.{Record, Line, Archive, Hold, IsArchive, IsRecord, line_of, due_of, is_due}
use Rattle.record_archive.specs.Archive.{is_by, is_live, is_held, line_cmp, due_list}
use Rattle.record_tables.specs.Rows.{Due}
use Rattle.record_tables.specs.Reads as reads
use Rattle.record_reads.specs.DueRecords.{DueRecord, FitsDueRecord, FitsDueRecordsBy, due_record, is_of, with_records}
use Rattle.record_adoption.proofs.Sorting.{all-sort, IsUntied, filter-sort_by}
use Rattle.record_store.specs.Dues.{IsDatable, due_line, due_records}
use Rattle.record_adoption.specs.Keeping.{StoresArchive, has_due, due_row, due_rows, hold_count}
use Rattle.record_store.proofs.DueDays.{due_small}

filter-twice : {X : Type 0} (p q : X → Bool) (xs : List X) → filter p (filter q xs) ≡ filter (λ x. q x && p x) xs
filter-twice p q [] = refl
filter-twice p q (x ∷ xs) = go (q x) (filter-twice p q xs)
  where
    go : (b : Bool) → filter p (filter q xs) ≡ filter (λ x. q x && p x) xs
        → filter p (cond b (x ∷ filter q xs) (filter q xs))
        ≡ cond (b && p x) (x ∷ filter (λ x. q x && p x) xs) (filter (λ x. q x && p x) xs)
    go true more = ap (λ l. cond (p x) (x ∷ l) l) more
    go false more = more

pub map_same_on : {X Y : Type 0} (f g : X → Y) (xs : List X) → AllByRecursion (λ x. f x ≡ g x) xs → map f xs ≡ map g xs
map_same_on f g [] h = refl
map_same_on f g (x ∷ xs) h = ap₂ ◌∷◌ h.0 (map_same_on f g xs h.1)

all_found : {X : Type 0} (P : X → Type 0) (p : X → Bool) (xs : List X) → ((x : X) → p x ≡ true → P x) → AllByRecursion P (filter p xs)
all_found P p [] h = tt
all_found P p (x ∷ xs) h = go (p x) refl (all_found P p xs h)
  where
    go : (b : Bool) → p x ≡ b → AllByRecursion P (filter p xs) → AllByRecursion P (cond b (x ∷ filter p xs) (filter p xs))
    go true e more = (h x e, more)
    go false e more = more

-- ---- due rows

cmp_is : (m n : ℕ) → int_cmp (pos m) (pos n) ≡ nat_cmp m n
cmp_is m n = grind (arith, ints)

-- the stored day of a record is that of its line
day_is : (o : Option ℕ) → pos (unwrap_or o 0) ≡ unwrap_or (option_map pos o) (pos 0)
day_is None = refl
day_is (Some d) = refl

due_cmp_total : IsTotalOrder reads.due_cmp
due_cmp_total = then_total (on_total (λ (d : Due). pos d.day) int_cmp_total) (on_total (λ (d : Due). pos d.number) int_cmp_total)

pub le_is : (m n : ℕ) → int_le (pos m) (pos n) ≡ nat_le m n
le_is m n = grind (arith, ints)

same_key : (n : ℕ) → int_eq (pos n) (pos n) ≡ true
same_key n = grind (arith, ints)

other_key : (m n : ℕ) → m < n → int_eq (pos m) (pos n) ≡ false
other_key m n h = grind (arith, ints)

other_key_below : (m n : ℕ) → n < m → int_eq (pos m) (pos n) ≡ false
other_key_below m n h = grind (arith, ints)

-- each record is the one that has its number
alone_itself : (xs : List Record) → IsAscending (λ (x y : Record). x.number < y.number) xs
    → AllByRecursion (λ (r : Record). filter (λ (x : Record). int_eq (pos x.number) (pos r.number)) xs ≡ r ∷ []) xs
alone_itself [] up = tt
alone_itself (x ∷ xs) up = (
  ap (λ b. cond b (x ∷ filter (λ (y : Record). int_eq (pos y.number) (pos x.number)) xs) (filter (λ (y : Record).
      int_eq (pos y.number) (pos x.number)) xs)) (same_key x.number)
      ∙ ap (λ l. x ∷ l) (filter_none (λ (y : Record).
      int_eq (pos y.number) (pos x.number)) xs (all_weaker _ (λ (y : Record). int_eq (pos y.number) (pos x.number)
      ≡ false) (λ y low. other_key_below y.number x.number low) xs up.0)),
  all_both _ (λ (r : Record). filter (λ (y : Record). int_eq (pos y.number) (pos r.number)) xs ≡ r
      ∷ []) (λ (r : Record). filter (λ (y : Record). int_eq (pos y.number) (pos r.number)) (x ∷ xs) ≡ r ∷ [])
      (λ r low h. ap (λ b.
      cond b (x ∷ filter (λ (y : Record). int_eq (pos y.number) (pos r.number)) xs) (filter (λ (y : Record).
      int_eq (pos y.number) (pos r.number)) xs)) (other_key x.number r.number low)
      ∙ h) xs up.0 (alone_itself xs up.1),
)

-- a list for each element, where each list has one element
flat_map_ones : {X Y : Type 0} (f : X → List Y) (g : X → Y) (xs : List X) → AllByRecursion (λ x. f x ≡ g x ∷ []) xs → flat_map f xs ≡ map g xs
flat_map_ones f g [] h = refl
flat_map_ones f g (x ∷ xs) h = ap₂ ◌++◌ h.0 (flat_map_ones f g xs h.1)

-- the tests of the stored rows are those of the due list
tests_are : (live held : Bool) (o : Option ℕ) (day : ℕ)
    → (((live && is_some o) && int_le (pos (unwrap_or o 0)) (pos day)) && not held)
    ≡ (live && (not held && is_by day o))
tests_are false held o day = refl
tests_are true true None day = refl
tests_are true false None day = refl
tests_are true true (Some d) day = go (int_le (pos d) (pos day))
  where
    go : (b : Bool) → (b && false) ≡ false
    go true = refl
    go false = refl
tests_are true false (Some d) day = go (int_le (pos d) (pos day)) ∙ le_is d day
  where
    go : (b : Bool) → (b && true) ≡ b
    go true = refl
    go false = refl

there_is : (live held : Bool) (o : Option ℕ) (day : ℕ) → (live && (not held && is_by day o)) ≡ true → Some (unwrap_or o 0) ≡ o
there_is live held (Some d) day h = refl
there_is true true None day h = absurd (true≢false (sym h))
there_is true false None day h = absurd (true≢false (sym h))
there_is false held None day h = absurd (true≢false (sym h))

-- THE DUE LIST: the lines of the due records up to a day, in their order, without those that are held
pub due_list_is : (a : Archive) → IsArchive a → (day : ℕ) → map due_line (filter (λ d. not (is_held a d.number)) (due_records a day)) ≡ due_list a day
due_list_is a is day =
    let D = due_row a in
    let E : Record → DueRecord = λ r. due_record (D r) r in
    let R = a.records in
    let by : Record → Bool = λ r. reads.is_by day (D r) in
    let free : Record → Bool = λ r. not (is_held a r.number) in
    let c : Record → Record → Ordering = λ r s. reads.due_cmp (D r) (D s) in
    let total : IsTotalOrder c = on_total D due_cmp_total in
    let X1 = filter by (filter (has_due a) R) in
    let first : filter (reads.is_by day) (due_rows a) ≡ map D X1 = filter-map (reads.is_by day) D (filter (has_due a) R) in
    let second : sort_by reads.due_cmp (map D X1) ≡ map D (sort_by c X1) = sort_by-map reads.due_cmp D X1 in
    let own : AllByRecursion (λ r. map (due_record (D r)) (filter (is_of (D r)) R) ≡ E r ∷ []) (sort_by c X1) =
    all-sort c total _ X1
    (all-filter _ by _ (all-filter _ (has_due a) R (all_weaker _ (λ r.
    map (due_record (D r)) (filter (is_of (D r)) R) ≡ E r ∷ []) (λ r alone.
    ap (map (due_record (D r))) alone) R (alone_itself R is.in_order)))) in
    let third : with_records R (map D (sort_by c X1)) ≡ map E (sort_by c X1) = flat_map-map _ D (sort_by c X1)
    ∙ flat_map_ones _ E (sort_by c X1) own in
    let apart : IsUntied c total X1 =
    ascending_weaker _ (λ (x y : Record). is_eq (c x y) ≡ false) (λ x y low.
    (no_tie_after (int_cmp (pos (D x).day) (pos (D y).day))
    (no_tie (Less-from_lt (pos x.number) (pos y.number) (grind (arith, ints, low))))).apart)
    X1 (ascending-filter _ by _ (ascending-filter _ (has_due a) R is.in_order)) in
    let fourth : filter free (sort_by c X1) ≡ sort_by c (filter free X1) = filter-sort_by c total free X1 apart in
    let all : filter free X1 ≡ filter (is_due a day) R =
    ap (filter free) (filter-twice by (has_due a) R) ∙ filter-twice free (λ r. has_due a r && by r) R
    ∙ filter_same _ (is_due a day) (λ r. tests_are (is_live r) (is_held a r.number) (due_of a r) day) R in
    let Z = filter (is_due a day) R in
    let order : c ≡ (λ r s. line_cmp (line_of a r) (line_of a s)) = λ i r s.
    ordering_then (int_cmp (day_is (due_of a r) i) (day_is (due_of a s) i)) (cmp_is r.number s.number i) in
    let lines : AllByRecursion (λ r. due_line (E r) ≡ line_of a r) (sort_by c Z) =
    all-sort c total (λ r. due_line (E r) ≡ line_of a r) Z
    (all_found (λ r. due_line (E r) ≡ line_of a r) (is_due a day) R
    (λ r due. λ i.
    record {
      number = r.number;
      path = r.path;
      due =
          option_map pos (there_is (is_live r) (is_held a r.number) (due_of a r) day due i);
    })) in
    ap (λ l. map due_line (filter (λ d. not (is_held a d.number)) (with_records R (sort_by reads.due_cmp l)))) first
    ∙ ap (λ l. map due_line (filter (λ d. not (is_held a d.number)) (with_records R l))) second
    ∙ ap (λ l. map due_line (filter (λ d. not (is_held a d.number)) l)) third
    ∙ ap (map due_line) (filter-map (λ d. not (is_held a d.number)) E (sort_by c X1) ∙ ap (map E) (fourth ∙ ap (sort_by c) all))
    ∙ map-map due_line E (sort_by c Z)
    ∙ map_same_on _ (line_of a) (sort_by c Z) lines
    ∙ ap (λ k. map (line_of a) (sort_by k Z)) order
    ∙ sym (sort_by-map line_cmp (line_of a) Z)

-- ---- due days that can be listed

-- the number of the record fits in 32 bits, and the due day is not after 9999-12-31
abbrev IsSmall : Due → Type 0
IsSmall d = (d.number < 2 ^ 32) × (d.day ≤ 2932896)

dues_small : (a : Archive) → IsArchive a → AllByRecursion IsSmall (due_rows a)
dues_small a is =
    all_map IsSmall (due_row a) (filter (has_due a) a.records)
    (all-filter (λ (r : Record). IsSmall (due_row a r)) (has_due a) a.records
    (all_weaker (IsRecord a) (λ (r : Record). IsSmall (due_row a r)) (λ r h.
    (h.number.1, due_small a.plan r.path r.day is.plan h.day)) a.records
    (recursion_from_All (IsRecord a) a.records is.records)))

module _ (P : DueRecord → Type 0) (from : (d : Due) (r : Record) → IsSmall d → P (due_record d r)) where
  all_joined : (rs : List Record) (day : ℕ) (ds : List Due) → AllByRecursion IsSmall ds
      → AllByRecursion P (with_records rs (sort_by reads.due_cmp (filter (reads.is_by day) ds)))
  all_joined rs day ds small =
      all-flat_map P _ (sort_by reads.due_cmp (filter (reads.is_by day) ds))
      (all-sort reads.due_cmp due_cmp_total (λ (d : Due). AllByRecursion P (map (due_record d) (filter (is_of d) rs))) _
      (all_weaker IsSmall (λ (d : Due). AllByRecursion P (map (due_record d) (filter (is_of d) rs))) (λ d h.
      all-map P (due_record d) (λ r. from d r h) (filter (is_of d) rs)) _
      (all-filter IsSmall (reads.is_by day) ds small)))

-- the due records of an archive's tables can be read
pub due_records_fit : (a : Archive) (db : Database) (s : StoresArchive db a) (day : ℕ) → IsArchive a → FitsDueRecordsBy day s.tables
due_records_fit a db s day is =
    subst (λ ds. AllByRecursion FitsDueRecord (with_records s.tables.records (sort_by reads.due_cmp (filter (reads.is_by day) ds)))) (sym s.dues)
    (all_joined FitsDueRecord (λ d r h. record { number = h.0; day = omega (arith, h.1) }) s.tables.records day (due_rows a) (dues_small a is))

-- and each has a date
pub due_records_datable : (a : Archive) (day : ℕ) → IsArchive a → AllByRecursion IsDatable (due_records a day)
due_records_datable a day is = all_joined IsDatable (λ d r h. h.1) a.records day (due_rows a) (dues_small a is)

-- ---- counts of holds

pub held_if : {X : Type 0} (p : X → Bool) (xs : List X) → 0 < tally p xs → list_any p xs ≡ true
held_if p [] h = absurd (omega arith)
held_if p (x ∷ xs) h = go (p x) h (held_if p xs)
  where
    go : (b : Bool) → 0 < cond b 1 0 + tally p xs → (0 < tally p xs → list_any p xs ≡ true) → (b || list_any p xs) ≡ true
    go true h more = refl
    go false h more = more (let low : 0 < 0 + tally p xs = h in omega (arith, low))

pub free_if : {X : Type 0} (p : X → Bool) (xs : List X) → tally p xs ≤ 0 → list_any p xs ≡ false
free_if p [] h = refl
free_if p (x ∷ xs) h = go (p x) h (free_if p xs)
  where
    go : (b : Bool) → cond b 1 0 + tally p xs ≤ 0 → (tally p xs ≤ 0 → list_any p xs ≡ false) → (b || list_any p xs) ≡ false
    go true h more = absurd (let low : 1 + tally p xs ≤ 0 = h in omega (arith, low))
    go false h more = more (let low : 0 + tally p xs ≤ 0 = h in omega (arith, low))

positive : (k : ℕ) → (suc k == 0) ≡ false
positive k = grind arith

-- the store's counts decide which records are held
unheld_is : (a : Archive) (n k : ℕ) → k ≡ hold_count a n → (k == 0) ≡ not (is_held a n)
unheld_is a n zero is =
    sym (ap not (free_if (λ (h : Hold). h.number == n) a.holds (let count : 0
    ≡ tally (λ (h : Hold). h.number == n) a.holds = is in omega (arith, count))))
unheld_is a n (suc k) is = positive k
    ∙ sym (ap not (held_if (λ (h : Hold). h.number == n) a.holds (let count : suc k
    ≡ tally (λ (h : Hold). h.number == n) a.holds = is in omega (arith, count))))

pub unheld_are : (a : Archive) (counts : ℕ → ℕ) → ((n : ℕ) → counts n ≡ hold_count a n) → (ds : List DueRecord)
    → filter (λ d. counts d.number == 0) ds ≡ filter (λ d. not (is_held a d.number)) ds
unheld_are a counts are = filter_same _ _ (λ d. unheld_is a d.number (counts d.number) (are d.number))

-- ---- one due record after another

abbrev pub lines_told : {V : Type 0} → (DueRecord → Bool) → (V → DueRecord) → List V → List Line
lines_told p f vs = map due_line (filter p (map f vs))

pub is_zero : (k : ℕ) → k ≡ 0 → (k == 0) ≡ true
is_zero k h = grind arith

pub is_not_zero : (k : ℕ) → (k ≡ 0 → ⊥) → (k == 0) ≡ false
is_not_zero zero h = absurd (h refl)
is_not_zero (suc k) h = positive k

module _ {L V : Type 0} (view : L → Line) (f : V → DueRecord) (p : DueRecord → Bool) where
  pub line_more : (lines : List L) (l : L) (v : V) (rest : List V) → view l ≡ due_line (f v) → p (f v) ≡ true
      → map view (lines ++ l ∷ []) ++ lines_told p f rest ≡ map view lines ++ lines_told p f (v ∷ rest)
  line_more lines l v rest is kept =
      ap (λ k. k ++ lines_told p f rest) (map-append view lines (l ∷ [])) ∙ append_assoc (map view lines) (view l ∷ []) (lines_told p f rest)
      ∙ ap (λ x. map view lines ++ x ∷ lines_told p f rest) is
      ∙ sym (ap (λ b. map view lines ++ map due_line (cond b (f v ∷ filter p (map f rest)) (filter p (map f rest)))) kept)

module _ {V : Type 0} (f : V → DueRecord) (p : DueRecord → Bool) where
  pub line_none : (v : V) (rest : List V) → p (f v) ≡ false → lines_told p f rest ≡ lines_told p f (v ∷ rest)
  line_none v rest out = sym (ap (λ b. map due_line (cond b (f v ∷ filter p (map f rest)) (filter p (map f rest)))) out)

pub no_items : {X : Type 0} (xs : List X) (n : ℕ) → n ≡ length xs → n ≡ 0 → xs ≡ []
no_items [] n is none = refl
no_items (x ∷ xs) n is none = absurd (omega (arith, is, none))
