-- What each statement makes of the tables.
use Rattle.std.proofs.Common.{◌≡◌, ◌<◌, ◌<ℤ◌, ◌≤◌, ◌/◌, ℕ, ℤ, pos, List, [], ◌∷◌, ◌++◌, map, fold, filter, length, Bool}
use Rattle.std.proofs.Common.{true, false, None, Some, Option, Ok, refl, sym, ap, subst, ◌∙◌, arith, int_eq, IsTrue}
use Rattle.std.proofs.Common.{◌+ℤ◌}
use Rattle.std.specs.List.{AllByRecursion, list_all}
use Rattle.std.specs.Ordering.{match_ordering}
use Rattle.std.proofs.lemmas.Int.{ints}
use Rattle.sqlite.specs.declared.types.Value.TheVariants.{Null, Int, Text, Blob}
use Rattle.sqlite.specs.Order.{Row}
use Rattle.sqlite.specs.Term.{Term, eval_all, holds as passes}
use Rattle.sqlite.specs.Tree.{Trees, put_row, rowid}
use Rattle.sqlite.specs.Edit.{edit_of, edited, id_in}
use Rattle.sqlite.specs.Rowids.TheVariants.{Chosen, Given}
use Rattle.sqlite.specs.Effect.{value_rows, IsDatabase}
use Rattle.sqlite.specs.Source.TheVariants.{Values}
use Rattle.sqlite.specs.State.{State, ExecutesInside}
use Rattle.sqlite.specs.Command.TheVariants.{Insert, Update, Delete}
use Rattle.sqlite.proofs.Callers.{runs_as}
use Rattle.sqlite_rules.specs.Edit.{next_rowid, without_all, put_all}
use Rattle.sqlite_rules.specs.Calls.{ids_of}
use Rattle.sqlite_keyed.specs.Keyed.{IsKeyedBy, insert_by, next_key}
use Rattle.sqlite_keyed.specs.Lists.{delete_where, update_where}
use Rattle.sqlite_keyed.proofs.KeyedLemmas.{Less-from_lt, IsKeyedBy-insert_by, IsKeyedBy-delete_where}
use Rattle.sqlite_keyed.proofs.SliceLemmas.{insert_next}
use Rattle.sqlite_keyed.proofs.RuleLemmas.{at_most_one}
use Rattle.sqlite_keyed.proofs.ListLemmas.{filter_none, all_of}
use Rattle.sqlite_keyed.proofs.WriteLemmas.{puts_update}
use Rattle.sqlite_typed.specs.Columns.{or_null}
use Rattle.sqlite_typed.proofs.RowLemmas.{puts-map}
use Rattle.sqlite_typed.proofs.TestLemmas.{at_texts, at_ints, then_term, last_term}
use Rattle.sqlite_sql.specs.declared.ops.CompareOp.TheVariants.{Eq}
use Rattle.sqlite_sql.specs.Program.{overlay}
use Rattle.sqlite.specs.Schema.{Schema}
use Rattle.record_tables.specs.Tables.{IsArchiveSchema, in_tree, record_table}
use Rattle.record_items.specs.Items.{Message, Record}
use Rattle.record_tables.specs.Rows.{Tables, record_key, record_row, Hold, hold_row}
use Rattle.record_tables.specs.Rows.{Due, due_key, Stores, StoresKeyed}
use Rattle.record_tables.specs.Rows.{AreKeyed, as_flag}
use Rattle.record_tables.specs.Changes.{RestBeside, Puts, Always, IsPastMessages, IsPastRecords, IsPastDues, with_message}
use Rattle.record_tables.specs.Changes.{with_record, with_due, with_due_placed, with_hold, with_setting, with_class, Rule, schedule_at}
use Rattle.record_tables.specs.Changes.{with_schedule, without_dues, without_classes, without_schedules}
use Rattle.record_tables.specs.Changes.{without_settings, without_due, without_message, without_hold, is_hold}
use Rattle.record_tables.specs.Changes.{destruction_of, with_destruction, in_class, with_path}
use Rattle.record_tables.proofs.Texts
use Rattle.record_tables.proofs.Compiling.{Means}
use Rattle.record_tables.proofs.Texts.{deleting, alone, on_table}
use Rattle.record_tables.proofs.WriteLemmas.{inserts, cast_int, cast_null}
use Rattle.record_tables.proofs.DeleteLemmas.{deletes, deleted_rows}
use Rattle.record_tables.proofs.AnswerLemmas.{row_alone}
use Rattle.record_tables.proofs.UpdateLemmas.{updates, changed as changed_rows}
use Rattle.record_tables.proofs.Described.{Described, messages, records, holds, settings, classes, schedules, dues}
use Rattle.record_tables.proofs.Described.{place, tree, table, quiet, seen, changed, rest_beside}

-- ---- a row after the others

insert_last : {X : Type 0} (key : X → ℤ) (xs : List X) (new : X) → AllByRecursion (λ x. key x <ℤ key new) xs → insert_by key xs new ≡ xs ++ new ∷ []
insert_last key [] new h = refl
insert_last key (x ∷ xs) new h =
    ap (λ o. match_ordering o (x ∷ insert_by key xs new) (new ∷ xs) (new ∷ x ∷ xs)) (Less-from_lt (key x) (key new) h.0)
    ∙ ap (λ l. x ∷ l) (insert_last key xs new h.1)

past_ints : {X : Type 0} (number : X → ℕ) (xs : List X) (n : ℕ) → AllByRecursion (λ x. number x < n) xs
    → AllByRecursion (λ x. pos (number x) <ℤ pos n) xs
past_ints number [] n h = tt
past_ints number (x ∷ xs) n h = (grind (arith, ints, h.0), past_ints number xs n h.1)

pub above_last : {X : Type 0} (number : X → ℕ) (xs : List X) (new : X) → AllByRecursion (λ x. number x < number new) xs
    → insert_by (λ x. pos (number x)) xs new ≡ xs ++ new ∷ []
above_last number xs new past = insert_last (λ x. pos (number x)) xs new (past_ints number xs (number new) past)

next_is : {X : Type 0} (key : X → ℤ) (to_row : X → Row) → ((x : X) → id_in (rowid (to_row x)) ≡ key x)
    → (xs : List X) (a : ℤ) → fold (λ _ r. id_in (rowid r) +ℤ pos 1) a (map to_row xs)
    ≡ fold (λ _ x. key x +ℤ pos 1) a xs
next_is key to_row same [] a = refl
next_is key to_row same (x ∷ xs) a =
    ap (λ k. fold (λ _ r. id_in (rowid r) +ℤ pos 1) (k +ℤ pos 1) (map to_row xs)) (same x)
    ∙ next_is key to_row same xs (key x +ℤ pos 1)

-- ---- a statement on any table

-- a statement in a transaction, which continues
puts_by : (old new : State) (text : List ℕ) (params : Row) (count : ℕ) (Allows : Tables → Type 0) (change : Tables
    → Tables) → IsTrue old.in_transaction → ExecutesInside 0 text params old new (Ok count)
    → ((t : Tables) → Stores old.now t → AreKeyed t → Allows t
    → StoresKeyed new.now (change t) × RestBeside old.now new.now × IsDatabase new.now)
    → Puts old new Allows change
puts_by old new text params count Allows change inside h made = record {
  stored = λ t s keyed allowed. (made t s keyed allowed).0;
  beside = λ t s keyed allowed. (made t s keyed allowed).1;
  sound = λ sound t s keyed allowed. (made t s keyed allowed).2;
  committed = h.1.committed_is;
  mode = h.1.mode ∙ sym inside;
  is_open = h.1.is_open ∙ sym h.1.was_open;
}

module _ {X : Type 0} (d : Described X) (text : List ℕ) (params : Row) where
  -- a row that an INSERT of values puts at its place
  inserts_row : (terms : List Term) (width : ℕ) (means : (schema : Schema) (has : IsArchiveSchema schema)
      → Means schema text (Insert (place d schema has) (Values terms width))) (Allows : Tables → Type 0) (one : Tables
      → X) (made : Tables → List X)
      (edit : (db : Trees) (tree : ℕ) (t : Tables) → db tree ≡ map d.to_row (d.rows t)
      → edited db (edit_of db (in_tree tree d.table) [] Chosen 0 (value_rows params width (length terms / width) terms))
      ≡ put_row (d.to_row (one t)) (db tree))
      (placed : (t : Tables) → AreKeyed t → Allows t → insert_by d.key (d.rows t) (one t) ≡ made t)
      (old new : State) (count : ℕ) → IsTrue old.in_transaction → ExecutesInside 0 text params old new (Ok count)
      → Puts old new Allows (λ t. d.with_rows (made t) t)
  inserts_row terms width means Allows one made edit placed old new count inside h =
      puts_by old new text params count Allows _ inside h (λ t s keyed allowed.
      let schema = old.now.schema in
      let has = s.schema in
      let is = means schema has in
      let w = runs_as text params old new schema refl _ is.is is.plain count h.0 in
      let ins = inserts schema (place d schema has) (table d schema has) (quiet d schema has) old new _ terms width params count refl w in
      let rows_are = d.stored old.now t s in
      let at_end = placed t keyed allowed in
      let rows = ins.1.rows ∙ edit old.now.trees (tree d schema has) t rows_are ∙ ap (put_row (d.to_row (one t))) rows_are
      ∙ puts-map d.key d.to_row d.keyed (one t ∷ []) (d.rows t) ∙ ap (map d.to_row) at_end in
      let up = subst (IsKeyedBy d.key) at_end (IsKeyedBy-insert_by d.key (d.rows t) (one t) (d.ordered t keyed)) in
      (changed d old.now new.now t _ s keyed ins.0 ins.1.tables rows up, rest_beside d old.now new.now has ins.0 ins.1.tables, w.sound))

  -- the same under the next rowid
  inserts_next : (terms : List Term) (width : ℕ) (means : (schema : Schema) (has : IsArchiveSchema schema)
      → Means schema text (Insert (place d schema has) (Values terms width))) (one : ℤ → X) (under : (id : ℤ)
      → d.key (one id) ≡ id)
      (edit : (db : Trees) (tree : ℕ)
      → edited db (edit_of db (in_tree tree d.table) [] Chosen 0 (value_rows params width (length terms / width) terms))
      ≡ put_row (d.to_row (one (next_rowid (db tree)))) (db tree))
      (old new : State) (count : ℕ) → IsTrue old.in_transaction → ExecutesInside 0 text params old new (Ok count)
      → Puts old new Always (λ t. d.with_rows (d.rows t ++ one (next_key d.key (d.rows t)) ∷ []) t)
  inserts_next terms width means one under edit = inserts_row terms width means Always (λ t. one (next_key d.key (d.rows t)))
      (λ t. d.rows t ++ one (next_key d.key (d.rows t)) ∷ [])
      (λ db tree t has. edit db tree ∙ ap (λ id. put_row (d.to_row (one id)) (db tree)) (ap next_rowid has
      ∙ next_is d.key d.to_row (λ x. ap id_in (d.keyed x)) (d.rows t) (pos 1)))
      (λ t keyed _. insert_next d.key (d.rows t) (one (next_key d.key (d.rows t))) (d.ordered t keyed) (under _))

  -- a DELETE by a test
  removes : (tests : List Term) (means : (schema : Schema) (has : IsArchiveSchema schema)
      → Means schema text (Delete (place d schema has) (deleting (tree d schema has) tests))) (p : X → Bool)
      (test : (x : X) → list_all (passes (params ∷ d.to_row x ∷ [])) tests ≡ p x) (old new : State) (count : ℕ)
      → IsTrue old.in_transaction → ExecutesInside 0 text params old new (Ok count)
      → Puts old new Always (λ t. d.with_rows (delete_where p (d.rows t)) t)
  removes tests means p test old new count inside h = puts_by old new text params count Always _ inside h (λ t s keyed _.
      let schema = old.now.schema in
      let has = s.schema in
      let is = means schema has in
      let w = runs_as text params old new schema refl _ is.is is.plain count h.0 in
      let at = tree d schema has in
      let done = deletes schema (place d schema has) (table d schema has) (quiet d schema has) old new _
      (deleting at tests) params count refl w in
      let left = deleted_rows d.key d.to_row d.keyed (overlay old.now.trees []) at (d.rows t)
      (seen old.now.trees at ∙ d.stored old.now t s) (d.ordered t keyed) tests params p test done.1.0 (done.1.1.answer Null) in (
        changed d old.now new.now t _ s keyed done.0 done.1.2.tables (done.1.2.rows
            ∙ ap (λ l. without_all l (ids_of done.1.0)) (sym (seen old.now.trees at))
            ∙ left) (IsKeyedBy-delete_where d.key _ (d.rows t) (d.ordered t keyed)),
        rest_beside d old.now new.now has done.0 done.1.2.tables,
        w.sound,
      ))

all_gone : {X : Type 0} (xs : List X) → delete_where (λ _. true) xs ≡ []
all_gone xs = filter_none _ xs (all_of _ (λ _. refl) xs)

-- a DELETE of all rows
clears : {X : Type 0} (d : Described X) (text : List ℕ) (means : (schema : Schema) (has : IsArchiveSchema schema)
    → Means schema text (Delete (place d schema has) (deleting (tree d schema has) []))) (old new : State) (count : ℕ)
    → IsTrue old.in_transaction
    → ExecutesInside 0 text [] old new (Ok count) → Puts old new Always (d.with_rows [])
clears d text means old new count inside h =
    let gone = removes d text [] [] means (λ _. true) (λ x. refl) old new count inside h in
    record {
      stored = λ t s keyed allowed.
          subst (λ xs. StoresKeyed new.now (d.with_rows xs t)) (all_gone (d.rows t)) (gone.stored t s keyed allowed);
      beside = gone.beside;
      sound = gone.sound;
      committed = gone.committed;
      mode = gone.mode;
      is_open = gone.is_open;
    }

-- ---- rows above the others

abbrev pub message_params : Message → Row
message_params m = Int (pos m.number) ∷ Blob m.body ∷ []

pub puts_message : (old new : State) (m : Message) (count : ℕ) → IsTrue old.in_transaction
    → ExecutesInside 0 Texts.insert_message (message_params m) old new (Ok count)
    → Puts old new (IsPastMessages m.number) (with_message m)
puts_message old new m =
    inserts_row messages Texts.insert_message (message_params m) Texts.message_terms 3 Texts.insert_message_is
    (IsPastMessages m.number) (λ _. m) (λ t. t.messages ++ m ∷ []) (λ db tree t has. rw (cast_null, cast_int (pos m.number)))
    (λ t keyed past. above_last (λ (x : Message). x.number) t.messages m past) old new

abbrev pub record_params : Record → Row
record_params r = Int (pos r.number) ∷ Int (pos r.message) ∷ Text r.path ∷ Int (pos r.day) ∷ []

pub puts_record : (old new : State) (r : Record) (count : ℕ) → r.destroyed ≡ false → IsTrue old.in_transaction
    → ExecutesInside 0 Texts.insert_record (record_params r) old new (Ok count)
    → Puts old new (IsPastRecords r.number) (with_record r)
puts_record old new r count live =
    inserts_row records Texts.insert_record (record_params r) Texts.record_terms 6 Texts.insert_record_is
    (IsPastRecords r.number) (λ _. r) (λ t. t.records ++ r ∷ [])
    (λ db tree t has. rw (live, cast_null, cast_int (pos r.number), cast_int (pos r.message), cast_int (pos r.day), cast_int (pos 0)))
    (λ t keyed past. above_last (λ (x : Record). x.number) t.records r past) old new count

abbrev pub due_params : Due → Row
due_params d = Int (pos d.number) ∷ Int (pos d.day) ∷ []

pub puts_due : (old new : State) (d : Due) (count : ℕ) → IsTrue old.in_transaction
    → ExecutesInside 0 Texts.insert_due (due_params d) old new (Ok count)
    → Puts old new (IsPastDues d.number) (with_due d)
puts_due old new d =
    inserts_row dues Texts.insert_due (due_params d) Texts.message_terms 3 Texts.insert_due_is (IsPastDues d.number)
    (λ _. d) (λ t. t.dues ++ d ∷ []) (λ db tree t has. rw (cast_null, cast_int (pos d.number), cast_int (pos d.day)))
    (λ t keyed past. above_last (λ (x : Due). x.number) t.dues d past) old new

-- ---- a row among the others

pub places_due : (old new : State) (d : Due) (count : ℕ) → IsTrue old.in_transaction
    → ExecutesInside 0 Texts.insert_due (due_params d) old new (Ok count)
    → Puts old new Always (with_due_placed d)
places_due old new d =
    inserts_row dues Texts.insert_due (due_params d) Texts.message_terms 3 Texts.insert_due_is Always
    (λ _. d) (λ t. insert_by due_key t.dues d) (λ db tree t has. rw (cast_null, cast_int (pos d.number), cast_int (pos d.day)))
    (λ t keyed _. refl) old new

-- ---- rows under the next rowid

abbrev pub hold_params : List ℕ → ℕ → Row
hold_params name n = Text name ∷ Int (pos n) ∷ []

pub puts_hold : (old new : State) (name : List ℕ) (n : ℕ) (count : ℕ) → IsTrue old.in_transaction
    → ExecutesInside 0 Texts.insert_hold (hold_params name n) old new (Ok count)
    → Puts old new Always (with_hold name n)
puts_hold old new name n =
    inserts_next holds Texts.insert_hold (hold_params name n) Texts.two_terms 3 Texts.insert_hold_is (λ id.
    record { id = id; name = name; number = n }) (λ id. refl)
    (λ db tree. rw (cast_null, cast_int (pos n))) old new

abbrev pub setting_params : List ℕ → List ℕ → Row
setting_params key value = Text key ∷ Text value ∷ []

pub puts_setting : (old new : State) (key value : List ℕ) (count : ℕ) → IsTrue old.in_transaction
    → ExecutesInside 0 Texts.insert_setting (setting_params key value) old new (Ok count)
    → Puts old new Always (with_setting key value)
puts_setting old new key value =
    inserts_next settings Texts.insert_setting (setting_params key value) Texts.two_terms 3 Texts.insert_setting_is
    (λ id. record { id = id; key = key; value = value }) (λ id. refl)
    (λ db tree. rw cast_null) old new

abbrev pub class_params : List ℕ → Bool → Option (List ℕ) → Row
class_params path is_open schedule = Text path ∷ Int (as_flag is_open) ∷ or_null Text schedule ∷ []

cast_text : (o : Option (List ℕ)) → Rattle.sqlite_rules.specs.Cast.as_text (or_null Text o) ≡ or_null Text o
cast_text None = refl
cast_text (Some t) = refl

pub puts_class : (old new : State) (path : List ℕ) (is_open : Bool) (schedule : Option (List ℕ)) (count : ℕ) → IsTrue old.in_transaction
    → ExecutesInside 0 Texts.insert_class (class_params path is_open schedule) old new (Ok count)
    → Puts old new Always (with_class path is_open schedule)
puts_class old new path is_open schedule =
    inserts_next classes Texts.insert_class (class_params path is_open schedule) Texts.three_terms 4
    Texts.insert_class_is
    (λ id. record { id = id; path = path; is_open = is_open; schedule = schedule }) (λ id. refl) (λ db tree.
    rw (cast_null, cast_int (as_flag is_open), cast_text schedule)) old new

abbrev pub schedule_params : Rule → Row
schedule_params r = Text r.path ∷ Int (pos r.count) ∷ Int (pos r.unit) ∷ Int (pos r.action) ∷ Int (pos r.year_end) ∷ []

pub puts_schedule : (old new : State) (r : Rule) (count : ℕ) → IsTrue old.in_transaction
    → ExecutesInside 0 Texts.insert_schedule (schedule_params r) old new (Ok count)
    → Puts old new Always (with_schedule r)
puts_schedule old new r =
    inserts_next schedules Texts.insert_schedule (schedule_params r) Texts.five_terms 6 Texts.insert_schedule_is (λ id.
    schedule_at id r) (λ id. refl)
    (λ db tree. rw (cast_null, cast_int (pos r.count), cast_int (pos r.unit), cast_int (pos r.action), cast_int (pos r.year_end))) old new

-- ---- rows that go

pub clears_dues : (old new : State) (count : ℕ) → IsTrue old.in_transaction
    → ExecutesInside 0 Texts.clear_dues [] old new (Ok count) → Puts old new Always without_dues
clears_dues = clears dues Texts.clear_dues Texts.clear_dues_is

pub clears_classes : (old new : State) (count : ℕ) → IsTrue old.in_transaction
    → ExecutesInside 0 Texts.clear_classes [] old new (Ok count) → Puts old new Always without_classes
clears_classes = clears classes Texts.clear_classes Texts.clear_classes_is

pub clears_schedules : (old new : State) (count : ℕ) → IsTrue old.in_transaction
    → ExecutesInside 0 Texts.clear_schedules [] old new (Ok count) → Puts old new Always without_schedules
clears_schedules = clears schedules Texts.clear_schedules Texts.clear_schedules_is

pub clears_settings : (old new : State) (count : ℕ) → IsTrue old.in_transaction
    → ExecutesInside 0 Texts.clear_settings [] old new (Ok count) → Puts old new Always without_settings
clears_settings = clears settings Texts.clear_settings Texts.clear_settings_is

test_key : (n m : ℕ) → list_all (passes ((Int (pos n) ∷ []) ∷ (Int (pos m) ∷ []) ∷ [])) Texts.key_test ≡ int_eq (pos m) (pos n)
test_key n m = last_term (at_ints false Eq (pos m) (pos n))

pub drops_due : (old new : State) (n : ℕ) (count : ℕ) → IsTrue old.in_transaction
    → ExecutesInside 0 Texts.delete_due (Int (pos n) ∷ []) old new (Ok count) → Puts old new Always (without_due n)
drops_due old new n = removes dues Texts.delete_due (Int (pos n) ∷ []) Texts.key_test Texts.delete_due_is (λ (d : Due).
    int_eq (pos d.number) (pos n)) (λ d. test_key n d.number) old new

pub drops_message : (old new : State) (n : ℕ) (count : ℕ) → IsTrue old.in_transaction
    → ExecutesInside 0 Texts.delete_message (Int (pos n) ∷ []) old new (Ok count)
    → Puts old new Always (without_message n)
drops_message old new n =
    removes messages Texts.delete_message (Int (pos n) ∷ []) Texts.key_test Texts.delete_message_is (λ (m : Message).
    int_eq (pos m.number) (pos n)) (λ m. test_key n m.number) old new

test_hold : (name : List ℕ) (n : ℕ) (x : Hold) → list_all (passes (hold_params name n ∷ hold_row x ∷ [])) Texts.hold_test ≡ is_hold name n x
test_hold name n x = then_term (at_texts false Eq x.name name) (last_term (at_ints false Eq (pos x.number) (pos n)))

pub drops_hold : (old new : State) (name : List ℕ) (n : ℕ) (count : ℕ) → IsTrue old.in_transaction
    → ExecutesInside 0 Texts.delete_hold (hold_params name n) old new (Ok count)
    → Puts old new Always (without_hold name n)
drops_hold old new name n =
    removes holds Texts.delete_hold (hold_params name n) Texts.hold_test Texts.delete_hold_is (is_hold name n)
    (test_hold name n) old new

-- ---- a record that is changed

abbrev pub asked : ℕ → Record → Bool
asked n r = int_eq (pos r.number) (pos n)

-- an UPDATE of the record with a number, which stays
module _ (text : List ℕ) (params : Row) (columns : List Term) (n : ℕ) (f : Record → Record)
    (keeps : (x : Record) → record_key (f x) ≡ record_key x) where
  -- the row of a record that the query gives
  abbrev given : Record → Row
  given x = eval_all columns (params ∷ record_row x ∷ [])

  -- the row that is given becomes that of the changed record
  abbrev Rewrites : Type 0
  Rewrites = (db : Trees) (tree : ℕ) (y : Record)
      → edited db (edit_of db (in_tree tree record_table) (ids_of (given y ∷ [])) Given 1 (given y ∷ []))
      ≡ put_all (without_all (db tree) (record_key y ∷ [])) (record_row (f y) ∷ [])

  update_edit : Rewrites → (db : Trees) (tree : ℕ) (ys : List Record) → length ys ≤ 1
      → edited db (edit_of db (in_tree tree record_table) (ids_of (map given ys)) Given 1 (map given ys))
      ≡ put_all (without_all (db tree) (map record_key ys)) (map (λ y. record_row (f y)) ys)
  update_edit one db tree [] few = refl
  update_edit one db tree (y ∷ []) few = one db tree y
  update_edit one db tree (y ∷ z ∷ zs) few = absurd (omega arith)

  keyed_changed : (xs : List Record) → IsKeyedBy record_key xs → IsKeyedBy record_key (update_where (asked n) f xs)
  keyed_changed xs up =
      subst (IsKeyedBy record_key) (puts_update record_key (asked n) f keeps xs up) (all_put xs (map f (filter (asked n) xs)) up)
    where
      all_put : (xs ys : List Record) → IsKeyedBy record_key xs → IsKeyedBy record_key (fold (insert_by record_key) xs ys)
      all_put xs [] up = up
      all_put xs (y ∷ ys) up = all_put (insert_by record_key xs y) ys (IsKeyedBy-insert_by record_key xs y up)

  changes_record : ((schema : Schema) (has : IsArchiveSchema schema)
      → Means schema text (Update has.common.records.place (alone (on_table has.common.records.tree Texts.key_test columns))))
      → ((x : Record) → list_all (passes (params ∷ record_row x ∷ [])) Texts.key_test ≡ asked n x) → Rewrites
      → (old new : State) (count : ℕ) → IsTrue old.in_transaction → ExecutesInside 0 text params old new (Ok count)
      → Puts old new Always (λ t. record t { records = update_where (asked n) f t.records })
  changes_record means test one old new count inside h = puts_by old new text params count Always _ inside h (λ t s keyed _.
      let schema = old.now.schema in
      let has = s.schema in
      let is = means schema has in
      let at = tree records schema has in
      let w = runs_as text params old new schema refl _ is.is is.plain count h.0 in
      let done = updates schema (place records schema has) (table records schema has) (quiet records schema has) old new _
      (alone (on_table at Texts.key_test columns)) params count refl w in
      let ys = filter (asked n) t.records in
      let few : length ys ≤ 1 = at_most_one record_key (pos n) (asked n) (λ x e. e) t.records keyed.records in
      let rows : done.1.0 ≡ map given ys =
      row_alone record_key record_row (overlay old.now.trees []) at t.records (seen old.now.trees at ∙ s.records) keyed.records Texts.key_test _
      params (asked n) test done.1.0 (done.1.1.answer Null) ys refl few in
      let written = done.1.2.rows
      ∙ ap (λ l. edited old.now.trees (edit_of old.now.trees (in_tree at record_table) (ids_of l) Given 1 l)) rows
      ∙ update_edit one old.now.trees at ys few
      ∙ ap (λ l. put_all (without_all l (map record_key ys)) (map (λ y. record_row (f y)) ys)) s.records
      ∙ changed_rows record_key record_row (λ x. refl) (pos n) f keeps t.records keyed.records ys refl few in (
        changed records old.now new.now t _ s keyed done.0 done.1.2.tables written (keyed_changed t.records keyed.records),
        rest_beside records old.now new.now has done.0 done.1.2.tables,
        w.sound,
      ))

pub destroys : (old new : State) (n : ℕ) (count : ℕ) → IsTrue old.in_transaction
    → ExecutesInside 0 Texts.set_destroyed (Int (pos n) ∷ []) old new (Ok count)
    → Puts old new Always (with_destruction n)
destroys old new n =
    changes_record Texts.set_destroyed (Int (pos n) ∷ []) Texts.destroyed_columns n destruction_of (λ x. refl)
    Texts.set_destroyed_is (λ x. test_key n x.number)
    (λ db tree y. rw (cast_null, cast_int (pos y.number), cast_int (pos y.message), cast_int (pos y.day), cast_int (pos 1))) old new

abbrev pub path_params : ℕ → List ℕ → Row
path_params n path = Int (pos n) ∷ Text path ∷ []

pub refiles : (old new : State) (n : ℕ) (path : List ℕ) (count : ℕ) → IsTrue old.in_transaction
    → ExecutesInside 0 Texts.set_path (path_params n path) old new (Ok count)
    → Puts old new Always (with_path n path)
refiles old new n path =
    changes_record Texts.set_path (path_params n path) Texts.path_columns n (in_class path) (λ x. refl)
    Texts.set_path_is (λ x. test_key n x.number)
    (λ db tree y. rw (cast_null, cast_int (pos y.number), cast_int (pos y.message), cast_int (pos y.day), cast_int (as_flag y.destroyed)))
    old new
