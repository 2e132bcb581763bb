-- Rows that can be read are typed ones.
use Rattle.std.proofs.Common.{◌≡◌, ℕ, ℤ, pos, List, [], ◌∷◌, map, true, refl, sym, ap, ap₂, subst, ◌∙◌}
use Rattle.std.specs.List.{AllZip, AllByRecursion, list_all}
use Rattle.std.specs.List.Sorted.{IsPermutation}
use Rattle.std.proofs.lemmas.List.Elements.{All-from_recursion, recursion_from_All}
use Rattle.std.proofs.lemmas.List.Sorted.{IsPermutation-map, IsPermutation-sym, All-permutation}
use Rattle.sqlite.specs.declared.types.Value.TheVariants.{Int, Text as Words}
use Rattle.sqlite.specs.Order.{Row}
use Rattle.sqlite.specs.Schema.{Schema}
use Rattle.sqlite.specs.Table.{Table}
use Rattle.sqlite.specs.Term.{Term, eval_all, holds}
use Rattle.sqlite.specs.Query.{IsAnswer, Output, output}
use Rattle.sqlite.specs.Tree.{Trees}
use Rattle.sqlite.specs.State.{State, Shown}
use Rattle.sqlite_sql.specs.Program.{overlay}
use Rattle.sqlite_sql.specs.Query.{page}
use Rattle.sqlite_keyed.specs.Keyed.{IsKeyedBy}
use Rattle.sqlite_typed.specs.Columns.{or_null}
use Rattle.sqlite_keyed.proofs.ListLemmas.{map-map, all_unmap}
use Rattle.sqlite_typed.proofs.AnswerLemmas.{last_table, at_end, matches_are, unfiltered}
use Rattle.record_items.specs.Items.{Message, Record}
use Rattle.record_tables.specs.Tables.{Stands, message_table, record_table, hold_table, class_table, schedule_table}
use Rattle.record_tables.proofs.Described.{seen}
use Rattle.record_tables.proofs.Compiling.{no_page}
use Rattle.record_tables.specs.Rows.{Hold, Class, Schedule, as_flag}
use Rattle.record_tables.specs.Changes.{ClassEntry, Rule}
use Rattle.record_tables.specs.Reads.{HoldEntry, ReadsNumber, ReadsRecord, ReadsHold, ReadsClass, ReadsRule}
use Rattle.record_reads.specs.RawRows.{RawMessage, RawRecord, RawHold, RawClass, RawSchedule, raw_message, raw_record}
use Rattle.record_reads.specs.RawRows.{raw_hold, raw_class, raw_schedule, raw_message_row, raw_record_row, raw_hold_row}
use Rattle.record_reads.specs.RawRows.{raw_class_row, raw_schedule_row, AreTyped, AreTypedMessages, AreTypedRecords}
use Rattle.record_reads.specs.RawRows.{AreTypedHolds, AreTypedClasses, AreTypedSchedules}
use Rattle.record_reads.proofs.Queries.{Asked, AsksFor, query, all_numbers, asks_numbers, all_records, asks_records, all_holds, asks_holds}
use Rattle.record_reads.proofs.Queries.{all_classes, asks_classes, all_schedules, asks_schedules}
use Rattle.record_reads.proofs.ReadLemmas.{answers}

zip_each : {A B : Type 0} (P : A → B → Type 0) (xs : List A) (ys : List B) → AllZip P xs ys → AllByRecursion (λ x. (y : B) × P x y) xs
zip_each P [] ys h = tt
zip_each P (x ∷ xs) [] h = absurd h
zip_each P (x ∷ xs) (y ∷ ys) h = ((y, h.0), zip_each P xs ys h.1)

-- the rows of a table that a query of all shows in some order, where each can be read
module _ {X R Y V : Type 0} (table : Table) (q : Asked) (asks : (schema : Schema) (is : Stands schema table) → AsksFor schema q is.tree)
    (all : q.tests ≡ []) (unpaged : q.page ≡ no_page) (raw : X → R) (key : R → ℤ) (to_row : R → Row) (Reads : Row → Y → Type 0) (of : V → Y) where
  abbrev show : R → Row
  show r = eval_all q.columns ([] ∷ to_row r ∷ [])

  permuted : (db : Trees) (tree : ℕ) (rs : List R) → db tree ≡ map to_row rs → IsKeyedBy key rs → (rows : List Row)
      → IsAnswer (query q tree) db [] rows → IsPermutation (map show rs) rows
  permuted db tree rs stored in_order rows a =
      let asked = query q tree in
      let out : R → Output = λ r. output asked ([] ∷ to_row r ∷ []) in
      let source = last_table db tree to_row key rs stored in_order (at_end db) in
      let matched = matches_are asked db [] source (λ _. true) (λ r. ap (list_all (holds ([] ∷ to_row r ∷ []))) all) in
      let kept : a.kept ≡ map out rs = a.distinct ∙ ap (map (output asked)) (a.grouped ∙ matched) ∙ map-map (output asked) _ _
      ∙ ap (map out) (unfiltered rs refl) in
      let shown : rows ≡ map (λ (o : Output). o.1) a.ordered = a.shown
      ∙ ap (λ (p : Term × Term). page (record asked { limit = p.0; offset = p.1 }) [] (map (λ (o : Output). o.1) a.ordered)) unpaged in
      let by = IsPermutation-map (λ (o : Output). o.1) _ _ (subst (λ l. IsPermutation l a.ordered) kept a.same) in
      subst (λ l. IsPermutation l rows) (map-map (λ (o : Output). o.1) out rs) (subst (IsPermutation _) (sym shown) by)

  module _ (back : (r : R) (y : Y) → Reads (show r) y → (x : X) × (r ≡ raw x)) where
    abbrev Can : Row → Type 0
    Can row = (v : V) × Reads row (of v)

    collect : (rs : List R) → AllByRecursion (λ r. Can (show r)) rs → (xs : List X) × (rs ≡ map raw xs)
    collect [] h = ([], refl)
    collect (r ∷ rs) h =
        let one = back r (of h.0.0) h.0.1 in
        let more = collect rs h.1 in
        (one.0 ∷ more.0, ap₂ ◌∷◌ one.1 more.1)

    typed : (old new : State) (rows : List Row) (vs : List V) → Shown q.text [] old new rows → AllZip (λ row v. Reads row (of v)) rows vs
        → (is : Stands old.now.schema table) → AreTyped raw key to_row (old.now.trees is.tree)
    typed old new rows vs h read is rs stored keyed =
        let answer = answers q is.tree [] old new rows (asks old.now.schema is) h in
        let same = permuted (overlay old.now.trees []) is.tree rs (seen old.now.trees _ ∙ stored) keyed rows answer in
        let each = All-from_recursion Can rows (zip_each (λ row v. Reads row (of v)) rows vs read) in
        collect rs (all_unmap Can show rs (recursion_from_All Can (map show rs)
        (All-permutation Can rows (map show rs) (IsPermutation-sym (map show rs) rows same) each)))

-- ---- the tables

one_message : (m : RawMessage) (n : ℕ) → ReadsNumber (Int m.number ∷ []) n → (x : Message) × (m ≡ raw_message x)
one_message m n h =
    let number : m.number ≡ pos n = let e = h in cc in
    (record { number = n; body = m.body }, λ i. record { number = number i; body = m.body })

pub typed_messages : {V : Type 0} (of : V → ℕ) (old new : State) (rows : List Row) (vs : List V) → Shown all_numbers.text [] old new rows
    → AllZip (λ row v. ReadsNumber row (of v)) rows vs → AreTypedMessages old.now
typed_messages of =
    typed message_table all_numbers asks_numbers refl refl raw_message (λ (r : RawMessage). r.number) raw_message_row ReadsNumber of one_message

one_record : (r : RawRecord) (q : Record)
    → ReadsRecord (Int r.number ∷ Int r.message ∷ Words r.path ∷ Int r.day ∷ Int r.destroyed ∷ []) q → (x : Record)
    × (r ≡ raw_record x)
one_record r q h =
    let number : r.number ≡ pos q.number = let e = h.number in cc in
    let message : r.message ≡ pos q.message = let e = h.message in cc in
    let day : r.day ≡ pos q.day = let e = h.day in cc in
    let destroyed : r.destroyed ≡ as_flag q.destroyed = let e = h.destroyed in cc in (
      record { number = q.number; message = q.message; path = r.path; day = q.day; destroyed = q.destroyed },
      λ i. record { number = number i; message = message i; path = r.path; day = day i; destroyed = destroyed i },
    )

pub typed_records : {V : Type 0} (of : V → Record) (old new : State) (rows : List Row) (vs : List V) → Shown all_records.text [] old new rows
    → AllZip (λ row v. ReadsRecord row (of v)) rows vs → AreTypedRecords old.now
typed_records of =
    typed record_table all_records asks_records refl refl raw_record (λ (r : RawRecord). r.number) raw_record_row ReadsRecord of one_record

one_hold : (r : RawHold) (q : HoldEntry) → ReadsHold (Words r.name ∷ Int r.number ∷ []) q → (x : Hold) × (r ≡ raw_hold x)
one_hold r q h =
    let number : r.number ≡ pos q.number = let e = h.number in cc in
    (record { id = r.id; name = r.name; number = q.number }, λ i. record { id = r.id; name = r.name; number = number i })

pub typed_holds : {V : Type 0} (of : V → HoldEntry) (old new : State) (rows : List Row) (vs : List V) → Shown all_holds.text [] old new rows
    → AllZip (λ row v. ReadsHold row (of v)) rows vs → AreTypedHolds old.now
typed_holds of =
    typed hold_table all_holds asks_holds refl refl raw_hold (λ (r : RawHold). r.id) raw_hold_row ReadsHold of one_hold

abbrev shown_class : RawClass → Row
shown_class c = Words c.path ∷ Int c.is_open ∷ or_null Words c.schedule ∷ []

one_class : (r : RawClass) (q : ClassEntry) → ReadsClass (shown_class r) q → (x : Class) × (r ≡ raw_class x)
one_class r q h =
    let is_open : r.is_open ≡ as_flag q.is_open = let e = h.is_open in cc in (
      record { id = r.id; path = r.path; is_open = q.is_open; schedule = r.schedule },
      λ i.
          record { id = r.id; path = r.path; is_open = is_open i; schedule = r.schedule },
    )

pub typed_classes : {V : Type 0} (of : V → ClassEntry) (old new : State) (rows : List Row) (vs : List V) → Shown all_classes.text [] old new rows
    → AllZip (λ row v. ReadsClass row (of v)) rows vs → AreTypedClasses old.now
typed_classes of =
    typed class_table all_classes asks_classes refl refl raw_class (λ (r : RawClass). r.id) raw_class_row ReadsClass of one_class

abbrev shown_schedule : RawSchedule → Row
shown_schedule s = Words s.path ∷ Int s.count ∷ Int s.unit ∷ Int s.action ∷ Int s.year_end ∷ []

one_schedule : (r : RawSchedule) (q : Rule) → ReadsRule (shown_schedule r) q → (x : Schedule) × (r ≡ raw_schedule x)
one_schedule r q h =
    let count : r.count ≡ pos q.count = let e = h.count in cc in
    let unit : r.unit ≡ pos q.unit = let e = h.unit in cc in
    let action : r.action ≡ pos q.action = let e = h.action in cc in
    let year_end : r.year_end ≡ pos q.year_end = let e = h.year_end in cc in (
      record { id = r.id; path = r.path; count = q.count; unit = q.unit; action = q.action; year_end = q.year_end },
      λ i. record { id = r.id; path = r.path; count = count i; unit = unit i; action = action i; year_end = year_end i },
    )

pub typed_schedules : {V : Type 0} (of : V → Rule) (old new : State) (rows : List Row) (vs : List V) → Shown all_schedules.text [] old new rows
    → AllZip (λ row v. ReadsRule row (of v)) rows vs → AreTypedSchedules old.now
typed_schedules of =
    typed schedule_table all_schedules asks_schedules refl refl raw_schedule (λ (r : RawSchedule). r.id) raw_schedule_row ReadsRule of one_schedule
