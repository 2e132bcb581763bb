-- What the query of a live record's message shows of the tables.
use Rattle.std.proofs.Common.{◌≡◌, ◌≤◌, ℕ, pos, List, [], ◌∷◌, ◌++◌, map, filter, length, Bool, true, false, cond, ◌&&◌, ◌==◌, not, codes}
use Rattle.std.proofs.Common.{None, Some, option_map, slice_get, find, refl, sym, ap, subst, ◌∙◌, arith, IsPermutation, int_eq}
use Rattle.std.proofs.lemmas.Option.{slice_get-map}
use Rattle.std.proofs.lemmas.List.{length-map}
use Rattle.std.proofs.lemmas.List.Sorted.{IsPermutation-map}
use Rattle.sqlite.specs.declared.types.Value.TheVariants.{Null, Int}
use Rattle.sqlite.specs.Order.{Row}
use Rattle.sqlite.specs.Term.{Term, col, op2, lit}
use Rattle.sqlite.specs.Query.{Query, inner, end, IsAnswer, Output, output}
use Rattle.sqlite.specs.Command.TheVariants.{Select}
use Rattle.sqlite.specs.State.{State, Shown}
use Rattle.sqlite.specs.Schema.{Schema}
use Rattle.sqlite.specs.Collation.TheVariants.{Binary}
use Rattle.sqlite.proofs.Callers.{reads_as}
use Rattle.sqlite_tied.specs.Compute.{everything}
use Rattle.sqlite_sql.specs.Program.{overlay}
use Rattle.sqlite_sql.specs.declared.ops.BinaryOp.TheVariants.{Compare}
use Rattle.sqlite_sql.specs.declared.ops.CompareOp.TheVariants.{Eq}
use Rattle.sqlite_keyed.proofs.ListLemmas.{map-map, slice_get-filter}
use Rattle.sqlite_typed.proofs.AnswerLemmas.{last_table, next_table, at_end, matches_are}
use Rattle.sqlite_typed.proofs.TestLemmas.{last_term, then_term, at_ints}
use Rattle.record_items.specs.Items.{Message, Record}
use Rattle.record_tables.specs.Tables.{IsArchiveSchema, record_table, message_table}
use Rattle.record_tables.specs.Rows.{Tables, Stores, AreKeyed, as_flag, record_key, record_row, message_key, message_row}
use Rattle.record_tables.proofs.Described.{seen}
use Rattle.record_tables.proofs.Compiling.{Draft, Means, no_page, draft_of, means_query_two}
use Rattle.record_tables.proofs.Texts.{on_table, alone}
use Rattle.record_reads.specs.Lookups.{live_body_with, live_body_in}
use Rattle.record_reads.proofs.Joins.{joined, is_asked, asked_is, few_permuted, filter_twice}
use Rattle.record_reads.proofs.LookupLemmas.{same_test, records_numbered, few_records, few_messages, body_values}

abbrev pub select_live_body : List ℕ
select_live_body =
    codes "SELECT message.body FROM record JOIN message ON message.number = record.message WHERE record.number = ?1 AND record.destroyed = 0"

abbrev live_body_test : List Term
live_body_test = op2 (Compare Eq Binary) (col 2 0) (col 1 2) ∷ op2 (Compare Eq Binary) (col 1 0) (col 0 0)
    ∷ op2 (Compare Eq Binary) (col 1 5) (lit (Int (pos 0))) ∷ []

abbrev live_body_draft : (records messages : ℕ) → Draft
live_body_draft records messages = draft_of (inner records (inner messages end)) live_body_test (col 2 2 ∷ []) []

abbrev pub live_body_query : (records messages : ℕ) → Query
live_body_query records messages = record (on_table records live_body_test (col 2 2 ∷ [])) { from = inner records (inner messages end) }

pub select_live_body_is : (schema : Schema) (has : IsArchiveSchema schema)
    → Means schema select_live_body (Select (alone (live_body_query has.common.records.tree has.common.messages.tree)) (codes "body" ∷ []))
unfolding everything
select_live_body_is schema has =
    means_query_two schema record_table message_table has.common.records has.common.messages no_page
    (live_body_draft has.common.records.tree has.common.messages.tree) (codes "body" ∷ []) (Some Binary ∷ []) select_live_body (refl, refl) refl refl (
      refl,
      refl,
      refl,
      (tt, (tt, tt)),
      ((0, refl, has.common.records.named), ((1, refl, has.common.messages.named), tt)),
      (tt, ((tt, tt, tt), tt)),
      (tt, tt),
      (tt, (tt, tt, tt), (tt, tt, tt)),
      refl,
      refl,
      tt,
      refl,
    )

-- ---- which pairs it selects

abbrev Pair : Type 0
Pair = Record × Message

abbrev is_its : Record → Message → Bool
is_its r m = m.number == r.message

abbrev is_live_with : ℕ → Record → Bool
is_live_with n r = (r.number == n) && not r.destroyed

live_flag : (destroyed : Bool) → int_eq (as_flag destroyed) (pos 0) ≡ not destroyed
live_flag true = refl
live_flag false = refl

abbrev live_pairs : ℕ → Tables → List Pair
live_pairs n t = joined is_its t.messages (filter (is_live_with n) t.records)

abbrev pub live_bodies : ℕ → Tables → List (List ℕ)
live_bodies n t = map (λ (a : Pair). a.1.body) (live_pairs n t)

-- ---- at most one

append_nil : {X : Type 0} (xs : List X) → xs ++ [] ≡ xs
append_nil [] = refl
append_nil (x ∷ xs) = ap (λ l. x ∷ l) (append_nil xs)

joined_few : (ms : List Message) (rs : List Record) → ((r : Record) → length (filter (is_its r) ms) ≤ 1) → length rs ≤ 1
    → length (joined is_its ms rs) ≤ 1
joined_few ms [] each few = omega arith
joined_few ms (r ∷ []) each few = rw append_nil (rw length-map (each r))
joined_few ms (r ∷ q ∷ rs) each few = absurd (omega arith)

kept_few : {X : Type 0} (p : X → Bool) (xs : List X) → length xs ≤ 1 → length (filter p xs) ≤ 1
kept_few p [] few = omega arith
kept_few p (x ∷ []) few = go (p x)
  where
    go : (b : Bool) → length (cond b (x ∷ []) []) ≤ 1
    go true = omega arith
    go false = omega arith
kept_few p (x ∷ y ∷ xs) few = absurd (omega arith)

few_live : (n : ℕ) (t : Tables) → AreKeyed t → length (live_pairs n t) ≤ 1
few_live n t keyed =
    joined_few t.messages (filter (is_live_with n) t.records) (λ r. few_messages r.message t keyed)
    (subst (λ l. length l ≤ 1) (sym (filter_twice (λ (r : Record). r.number == n) (λ (r : Record). not r.destroyed) t.records))
    (kept_few (λ (r : Record). not r.destroyed) (records_numbered n t) (few_records n t keyed)))

pub few_live_bodies : (n : ℕ) (t : Tables) → AreKeyed t → length (live_bodies n t) ≤ 1
few_live_bodies n t keyed = rw length-map (few_live n t keyed)

-- ---- the answer

pub shows_live_body : (old new : State) (rows : List Row) (n : ℕ) (t : Tables) → Stores old.now t → AreKeyed t
    → Shown select_live_body (Int (pos n) ∷ []) old new rows → rows ≡ map body_values (live_bodies n t)
shows_live_body old new rows n t s keyed h =
    let is = select_live_body_is old.now.schema s.schema in
    let params : Row = Int (pos n) ∷ [] in
    let read = reads_as select_live_body params old new old.now.schema refl _ is.is is.plain is.unlisted rows h in
    let q = live_body_query s.schema.common.records.tree s.schema.common.messages.tree in
    let db = overlay old.now.trees [] in
    let answer : IsAnswer q db params rows = read.answer Null in
    let source =
    next_table db s.schema.common.records.tree record_row record_key t.records (seen old.now.trees _ ∙ s.records) keyed.records
    (last_table db s.schema.common.messages.tree message_row message_key t.messages (seen old.now.trees _ ∙ s.messages) keyed.messages (at_end db)) in
    let out : Pair → Output = λ a. output q (params ∷ record_row a.0 ∷ message_row a.1 ∷ []) in
    let matched =
    matches_are q db params source (is_asked is_its (is_live_with n)) (λ a.
    then_term (at_ints false Eq (pos a.1.number) (pos a.0.message) ∙ same_test a.1.number a.0.message)
    (then_term (at_ints false Eq (pos a.0.number) (pos n) ∙ same_test a.0.number n)
    (last_term (at_ints false Eq (as_flag a.0.destroyed) (pos 0) ∙ live_flag a.0.destroyed)))) in
    let kept : answer.kept ≡ map out (live_pairs n t) =
    answer.distinct ∙ ap (map (output q)) (answer.grouped ∙ matched) ∙ map-map (output q) _ _
    ∙ ap (map out) (asked_is is_its (is_live_with n) t.messages t.records) in
    let same : IsPermutation (map out (live_pairs n t)) answer.ordered = subst (λ l. IsPermutation l answer.ordered) kept answer.same in
    let by = IsPermutation-map (λ (o : Output). o.1) _ _ same in
    let shown : map (λ (o : Output). o.1) (map out (live_pairs n t)) ≡ map body_values (live_bodies n t) =
    map-map _ out (live_pairs n t) ∙ sym (map-map body_values (λ (a : Pair). a.1.body) (live_pairs n t)) in
    let permuted : IsPermutation (map body_values (live_bodies n t)) rows =
    subst (λ l. IsPermutation l rows) shown (subst (IsPermutation _) (sym answer.shown) by) in
    few_permuted _ rows permuted (rw length-map (few_live_bodies n t keyed))

-- ---- what it means

one_live : (t : Tables) (rs : List Record) → length rs ≤ 1
    → slice_get (map (λ (a : Pair). a.1.body) (joined is_its t.messages (filter (λ (r : Record). not r.destroyed) rs))) 0
    ≡ live_body_in t (slice_get rs 0)
one_live t [] few = refl
one_live t (r ∷ []) few = go r.destroyed
  where
    go : (b : Bool) → slice_get (map (λ (a : Pair). a.1.body) (joined is_its t.messages (cond (not b) (r ∷ []) []))) 0
        ≡ cond b None (option_map (λ (m : Message). m.body) (find (is_its r) t.messages))
    go true = refl
    go false =
        ap (λ l. slice_get (map (λ (a : Pair). a.1.body) l) 0) (append_nil (map (λ (m : Message). (r, m)) (filter (is_its r) t.messages)))
        ∙ ap (λ l. slice_get l 0) (map-map (λ (a : Pair). a.1.body) (λ (m : Message). (r, m)) (filter (is_its r) t.messages))
        ∙ slice_get-map (λ (m : Message). m.body) _ 0
        ∙ ap (option_map (λ (m : Message). m.body)) (slice_get-filter (is_its r) t.messages)
one_live t (r ∷ q ∷ rs) few = absurd (omega arith)

pub live_body_is : (n : ℕ) (t : Tables) → AreKeyed t → slice_get (live_bodies n t) 0 ≡ live_body_with n t
live_body_is n t keyed =
    ap (λ rs. slice_get (map (λ (a : Pair). a.1.body) (joined is_its t.messages rs)) 0)
    (filter_twice (λ (r : Record). r.number == n) (λ (r : Record). not r.destroyed) t.records)
    ∙ one_live t (records_numbered n t) (few_records n t keyed)
    ∙ ap (live_body_in t) (slice_get-filter (λ (r : Record). r.number == n) t.records)

-- ---- worked rows

abbrev kept : (number message : ℕ) → Bool → Record
kept n m destroyed = record { number = n; message = m; path = codes "tax"; day = 10; destroyed = destroyed }

abbrev some_tables : Tables
some_tables = record {
  messages = record { number = 1; body = codes "a" } ∷ record { number = 3; body = codes "b" } ∷ [];
  records = kept 1 1 false ∷ kept 2 1 true ∷ kept 3 3 false ∷ kept 4 4 true ∷ [];
  holds = [];
  settings = [];
  classes = [];
  schedules = [];
  dues = [];
}

row_live : live_body_with 3 some_tables ≡ Some (codes "b")
row_live = refl

-- a destroyed record has none, also where another record has its message
row_destroyed : live_body_with 2 some_tables ≡ None
row_destroyed = refl

row_gone : live_body_with 4 some_tables ≡ None
row_gone = refl

row_no_record : live_body_with 5 some_tables ≡ None
row_no_record = refl
