-- What the looks by keys answer of the tables.
use Rattle.std.proofs.Common.{◌≡◌, ◌≤◌, ◌<◌, ◌-◌, ◌==◌, ℕ, pos, List, [], ◌∷◌, map, filter, length, Bool, true, false, cond, not, ◌||◌}
use Rattle.std.proofs.Common.{Option, Some, None, option_map, refl, sym, ap, ◌∙◌, arith, int_eq, IsSome, slice_get, slice_index_or}
use Rattle.std.specs.List.{list_any, list_all}
use Rattle.std.proofs.lemmas.Int.{ints}
use Rattle.std.proofs.lemmas.List.{length-map}
use Rattle.std.proofs.lemmas.List.Sorted.{length_permutation}
use Rattle.sqlite.specs.declared.types.Value.TheVariants.{Int, Text, Blob}
use Rattle.sqlite.specs.Order.{Row}
use Rattle.sqlite.specs.Term.{col, holds, eval_all}
use Rattle.sqlite.specs.State.{State, Shown}
use Rattle.sqlite_sql.specs.Program.{overlay}
use Rattle.sqlite_sql.specs.declared.ops.CompareOp.TheVariants.{Eq}
use Rattle.sqlite_keyed.proofs.ListLemmas.{map-map}
use Rattle.sqlite_keyed.proofs.RuleLemmas.{at_most_one}
use Rattle.sqlite_typed.proofs.TestLemmas.{at_texts, at_ints, then_term, last_term}
use Rattle.record_items.specs.Items.{Message, Record}
use Rattle.record_tables.proofs.Described.{seen}
use Rattle.record_tables.specs.Rows.{Tables, Stores, AreKeyed, message_key, message_row, record_key, record_row, Hold, hold_key, hold_row}
use Rattle.record_tables.specs.Changes.{is_hold}
use Rattle.record_tables.specs.Reads.{record_values}
use Rattle.record_tables.proofs.Texts.{key_test, hold_test}
use Rattle.record_tables.proofs.AnswerLemmas.{row_alone, rows_permuted}
use Rattle.record_reads.specs.Lookups.{has_hold_of}
use Rattle.record_reads.proofs.Queries.{record_columns, record_numbered, asks_record, body_numbered, asks_body, hold_named, asks_hold}
use Rattle.record_reads.proofs.ReadLemmas.{answers}

-- ---- what they show

pub same_test : (m n : ℕ) → int_eq (pos m) (pos n) ≡ (m == n)
same_test m n = grind (arith, ints)

test_key : (n m : ℕ) → list_all (holds ((Int (pos n) ∷ []) ∷ (Int (pos m) ∷ []) ∷ [])) key_test ≡ (m == n)
test_key n m = last_term (at_ints false Eq (pos m) (pos n)) ∙ same_test m n

abbrev pub records_numbered : ℕ → Tables → List Record
records_numbered n t = filter (λ (r : Record). r.number == n) t.records

pub few_records : (n : ℕ) (t : Tables) → AreKeyed t → length (records_numbered n t) ≤ 1
few_records n t keyed = at_most_one record_key (pos n) (λ (r : Record). r.number == n) (λ r e. same_test r.number n ∙ e) t.records keyed.records

pub shows_record : (old new : State) (rows : List Row) (n : ℕ) (t : Tables) → Stores old.now t → AreKeyed t
    → Shown record_numbered.text (Int (pos n) ∷ []) old new rows → rows ≡ map record_values (records_numbered n t)
shows_record old new rows n t s keyed h =
    let at = s.schema.common.records in
    let params : Row = Int (pos n) ∷ [] in
    row_alone record_key record_row (overlay old.now.trees []) at.tree t.records (seen old.now.trees _ ∙ s.records) keyed.records key_test
    record_columns params (λ (r : Record). r.number == n) (λ r. test_key n r.number) rows
    (answers record_numbered at.tree params old new rows (asks_record old.now.schema at) h) (records_numbered n t) refl (few_records n t keyed)

abbrev pub bodies_numbered : ℕ → Tables → List (List ℕ)
bodies_numbered n t = map (λ (m : Message). m.body) (filter (λ (m : Message). m.number == n) t.messages)

abbrev pub body_values : List ℕ → Row
body_values body = Blob body ∷ []

pub few_messages : (n : ℕ) (t : Tables) → AreKeyed t → length (filter (λ (m : Message). m.number == n) t.messages) ≤ 1
few_messages n t keyed = at_most_one message_key (pos n) (λ (m : Message). m.number == n) (λ m e. same_test m.number n ∙ e) t.messages keyed.messages

pub few_bodies : (n : ℕ) (t : Tables) → AreKeyed t → length (bodies_numbered n t) ≤ 1
few_bodies n t keyed = rw length-map (few_messages n t keyed)

pub shows_body : (old new : State) (rows : List Row) (n : ℕ) (t : Tables) → Stores old.now t → AreKeyed t
    → Shown body_numbered.text (Int (pos n) ∷ []) old new rows → rows ≡ map body_values (bodies_numbered n t)
shows_body old new rows n t s keyed h =
    let at = s.schema.common.messages in
    let params : Row = Int (pos n) ∷ [] in
    let found = filter (λ (m : Message). m.number == n) t.messages in
    row_alone message_key message_row (overlay old.now.trees []) at.tree t.messages (seen old.now.trees _ ∙ s.messages) keyed.messages key_test
    (col 1 2 ∷ []) params (λ (m : Message). m.number == n) (λ m. test_key n m.number) rows
    (answers body_numbered at.tree params old new rows (asks_body old.now.schema at) h) found refl (few_messages n t keyed)
    ∙ sym (map-map body_values (λ (m : Message). m.body) found)

any_filter : {X : Type 0} (p : X → Bool) (xs : List X) → not (length (filter p xs) == 0) ≡ list_any p xs
any_filter p [] = refl
any_filter p (x ∷ xs) = go (p x) (any_filter p xs)
  where
    go : (b : Bool) → not (length (filter p xs) == 0) ≡ list_any p xs
        → not (length (cond b (x ∷ filter p xs) (filter p xs)) == 0) ≡ b || list_any p xs
    go true h = grind arith
    go false h = h

abbrev hold_params : List ℕ → ℕ → Row
hold_params name n = Text name ∷ Int (pos n) ∷ []

test_hold : (name : List ℕ) (n : ℕ) (x : Hold) → list_all (holds (hold_params name n ∷ hold_row x ∷ [])) hold_test ≡ is_hold name n x
test_hold name n x = then_term (at_texts false Eq x.name name) (last_term (at_ints false Eq (pos x.number) (pos n)))

pub shows_hold : (old new : State) (rows : List Row) (name : List ℕ) (n : ℕ) (t : Tables) → Stores old.now t
    → AreKeyed t → Shown hold_named.text (hold_params name n) old new rows → not (length rows == 0) ≡ has_hold_of name n t
shows_hold old new rows name n t s keyed h =
    let at = s.schema.common.holds in
    let params = hold_params name n in
    let permuted =
    rows_permuted hold_key hold_row (overlay old.now.trees []) at.tree t.holds (seen old.now.trees _ ∙ s.holds) keyed.holds hold_test (col 1 2 ∷ [])
    params (is_hold name n) (test_hold name n) rows (answers hold_named at.tree params old new rows (asks_hold old.now.schema at) h) in
    let count : length rows ≡ length (filter (is_hold name n) t.holds) = length_permutation _ rows permuted
    ∙ length-map (filter (is_hold name n) t.holds) (λ x. eval_all (col 1 2 ∷ []) (params ∷ hold_row x ∷ [])) in
    ap (λ k. not (k == 0)) count ∙ any_filter (is_hold name n) t.holds

-- ---- what is read of them

-- of at most one value, the last is the first
pub popped : {V X : Type 0} (of : V → X) (all : List V) (ys : List X) (n : ℕ) (o : Option V) → n ≡ length all → map of all ≡ ys → length ys ≤ 1
    → (IsSome o → 0 < n) → ((d : V) → 0 < n → o ≡ Some (slice_index_or all (n - 1) d)) → option_map of o ≡ slice_get ys 0
popped of [] ys n None len is few some value = ap (λ l. slice_get l 0) is
popped of [] ys n (Some v) len is few some value = absurd (let none : 0 < n = some refl in omega arith)
popped of (v ∷ []) ys n o len is few some value =
    ap (option_map of) (value v (omega arith) ∙ ap (λ k. Some (slice_index_or (v ∷ []) (k - 1) v)) len) ∙ ap (λ l. slice_get l 0) is
popped of (v ∷ w ∷ all) ys n o len is few some value = absurd (omega (arith, ap length is, length-map (v ∷ w ∷ all) of))
