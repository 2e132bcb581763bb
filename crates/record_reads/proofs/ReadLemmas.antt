-- What each query shows of the tables.
use Rattle.std.proofs.Common.{◌≡◌, ℕ, pos, Bool, true, List, [], ◌∷◌, map, map-id, filter, Option, Some, None, refl, sym, ap, subst, ◌∙◌}
use Rattle.std.proofs.Common.{IsPermutation, ◌⊎◌, inl, inr, IsTrue, Less, int_cmp}
use Rattle.std.specs.List.{list_all}
use Rattle.std.specs.Ordering.{on}
use Rattle.std.proofs.lemmas.List.Sorted.{IsPermutation-map, IsPermutation-trans, IsPermutation-sym}
use Rattle.sqlite.specs.declared.types.Value.TheVariants.{Null, Int, Text}
use Rattle.sqlite.specs.Order.{Row}
use Rattle.sqlite.specs.Schema.{Schema}
use Rattle.sqlite.specs.Tree.{Trees}
use Rattle.sqlite.specs.Term.{holds, eval_all}
use Rattle.sqlite.specs.Query.{Query, IsAnswer, Output, output, output_cmp, inner, end}
use Rattle.sqlite_sql.specs.Program.{overlay}
use Rattle.sqlite_sql.specs.Query.{page}
use Rattle.sqlite_sql.proofs.QueryLemmas.{output_cmp_total}
use Rattle.sqlite.specs.declared.error.Error.{Error}
use Rattle.sqlite_schema.specs.declared.command.Returning.{Returning}
use Rattle.sqlite.specs.Clock.{timed}
use Rattle.sqlite.specs.State.{State, Shown, FailsToQuery, FailsToShow, IsNotRun, IsRolledBack, IsUnchanged}
use Rattle.sqlite.proofs.Callers.{reads_as}
use Rattle.sqlite_value.proofs.OrderLemmas.{value_cmp-Int, value_cmp-Text}
use Rattle.sqlite_trees.specs.Tree.{IsAscending}
use Rattle.sqlite_keyed.proofs.ListLemmas.{IsPermutation-filter, ascending-map, ascending_weaker, ascending-filter, filter-map, map-map, map_same}
use Rattle.sqlite_keyed.proofs.SortLemmas.{sorted_unique}
use Rattle.sqlite_typed.proofs.AnswerLemmas.{Source, last_table, at_end, answer_by_keys, matches_are, unfiltered}
use Rattle.sqlite_typed.proofs.TestLemmas.{last_key, then_key}
use Rattle.record_items.specs.Items.{Message}
use Rattle.record_tables.proofs.Described.{Described, messages, records, holds as holdings, settings, classes, schedules, dues, seen}
use Rattle.record_tables.specs.Tables.{Stands}
use Rattle.record_tables.specs.Rows.{Tables, Hold, Stores, StoresCommon, AreKeyed, message_key, record_key, hold_key, due_key}
use Rattle.record_tables.specs.Changes.{ClassEntry, Rule}
use Rattle.record_tables.specs.Reads.{record_values, number_values, numbers_of, class_values, class_entry, AreClassRows}
use Rattle.record_tables.specs.Reads.{rule_values, rule, AreRules, HoldEntry, hold_entry, hold_values, AreHolds, Pair}
use Rattle.record_tables.specs.Reads.{pair, pair_values, ArePairs, due_values}
use Rattle.record_reads.proofs.Queries.{Asked, AsksFor, query, all_records, asks_records, all_numbers, asks_numbers, all_holds, asks_holds}
use Rattle.record_reads.proofs.Queries.{placed_holds, asks_placed, all_settings, asks_settings, all_classes, asks_classes, all_schedules}
use Rattle.record_reads.proofs.Queries.{asks_schedules, stored_dues, asks_stored}

-- ---- what a query of one table shows

-- the rows that the query shows, it answers of the trees of the database
pub answers : (q : Asked) (tree : ℕ) (params : Row) (old new : State) (rows : List Row) → AsksFor old.now.schema q tree
    → Shown q.text params old new rows → IsAnswer (query q tree) (overlay old.now.trees []) params rows
answers q tree params old new rows is h = (reads_as q.text params old new old.now.schema refl _ is.is is.plain is.unlisted rows h).answer Null

module _ {X : Type 0} (d : Described X) (q : Asked) (asks : (schema : Schema) (is : Stands schema d.table) → AsksFor schema q is.tree) (params : Row)
    (old new : State) (is : Stands old.now.schema d.table) (t : Tables) (stored : old.now.trees is.tree ≡ map d.to_row (d.rows t))
    (keyed : AreKeyed t) (rows : List Row) (h : Shown q.text params old new rows) where
  abbrev asked : Query
  asked = query q is.tree

  abbrev db : Trees
  db = overlay old.now.trees []

  abbrev source : Source db (inner is.tree end) X
  source = last_table db is.tree d.to_row d.key (d.rows t) (seen old.now.trees is.tree ∙ stored) (d.ordered t keyed) (at_end db)

  abbrev answer : IsAnswer asked db params rows
  answer = answers q is.tree params old new rows (asks old.now.schema is) h

  -- those that pass a test, in the order of their keys
  pub by_key : (p : X → Bool) → ((x : X) → list_all (holds (params ∷ d.to_row x ∷ [])) q.tests ≡ p x) → (show : X → Row)
      → ((x : X) → eval_all q.columns (params ∷ d.to_row x ∷ []) ≡ show x)
      → ((x y : X) → output_cmp asked (output asked (params ∷ d.to_row x ∷ [])) (output asked (params ∷ d.to_row y ∷ [])) ≡ on d.key int_cmp x y)
      → rows ≡ page asked params (map show (filter p (d.rows t)))
  by_key p tests show shows in_order =
      sym (map-id rows) ∙ answer_by_keys asked db params source p tests (λ r. r) show shows refl refl in_order rows answer

  -- those that pass a test, in an order that has no ties among their values
  module _ {Y : Type 0} (view : X → Y) (out : Y → Output) (outs : (x : X) → output asked (params ∷ d.to_row x ∷ []) ≡ out (view x)) where
    pub by_order : (p : Y → Bool) → ((x : X) → list_all (holds (params ∷ d.to_row x ∷ [])) q.tests ≡ p (view x)) → (Before : Y → Y → Type 0)
        → ((x y : Y) → Before x y → output_cmp asked (out x) (out y) ≡ Less)
        → (ys : List Y) → IsPermutation (map view (d.rows t)) ys → IsAscending Before ys
        → rows ≡ page asked params (map (λ y. (out y).1) (filter p ys))
    by_order p tests Before in_order ys same rises =
        let xs = filter (λ x. p (view x)) (d.rows t) in
        let matched = matches_are asked db params source (λ x. p (view x)) tests in
        let kept : answer.kept ≡ map out (filter p (map view (d.rows t))) =
        answer.distinct ∙ ap (map (output asked)) (answer.grouped ∙ matched) ∙ map-map (output asked) _ _ ∙ map_same _ _ outs xs
        ∙ sym (map-map out view xs) ∙ ap (map out) (sym (filter-map p view (d.rows t))) in
        let still : IsPermutation (map out (filter p (map view (d.rows t)))) answer.ordered =
        subst (λ l. IsPermutation l answer.ordered) kept answer.same in
        let sorted : IsPermutation (filter p ys) (filter p (map view (d.rows t))) =
        IsPermutation-sym _ _ (IsPermutation-filter p (map view (d.rows t)) ys same) in
        let whole = IsPermutation-trans (map out (filter p ys)) _ answer.ordered (IsPermutation-map out _ _ sorted) still in
        let up = ascending-map (λ x y. output_cmp asked x y ≡ Less) out (filter p ys)
        (ascending-filter _ p ys (ascending_weaker Before (λ x y. output_cmp asked (out x) (out y) ≡ Less) in_order ys rises)) in
        let ordered = sorted_unique (output_cmp asked) (output_cmp_total asked) (map out (filter p ys)) answer.ordered up whole answer.sorted in
        answer.shown ∙ ap (λ l. page asked params (map (λ (o : Output). o.1) l)) ordered
        ∙ ap (page asked params) (map-map (λ (o : Output). o.1) out (filter p ys))

-- ---- whole tables

pub shows_records : (old new : State) (rows : List Row) (t : Tables) → StoresCommon old.now t → AreKeyed t
    → Shown all_records.text [] old new rows → rows ≡ map record_values t.records
shows_records old new rows t s keyed h =
    by_key records all_records asks_records [] old new s.schema.records t s.records keyed rows h (λ _. true) (λ _. refl) record_values (λ _. refl)
    (λ x y. last_key (value_cmp-Int (record_key x) (record_key y)))
    ∙ ap (map record_values) (unfiltered t.records refl)

pub shows_numbers : (old new : State) (rows : List Row) (t : Tables) → StoresCommon old.now t → AreKeyed t
    → Shown all_numbers.text [] old new rows → rows ≡ map number_values (numbers_of t)
shows_numbers old new rows t s keyed h =
    by_key messages all_numbers asks_numbers [] old new s.schema.messages t s.messages keyed rows h (λ _. true) (λ _. refl)
    (λ m. number_values m.number) (λ _. refl) (λ x y. last_key (value_cmp-Int (message_key x) (message_key y)))
    ∙ ap (map (λ (m : Message). number_values m.number)) (unfiltered t.messages refl)
    ∙ sym (map-map number_values (λ (m : Message). m.number) t.messages)

pub shows_placed : (old new : State) (rows : List Row) (t : Tables) → Stores old.now t → AreKeyed t
    → Shown placed_holds.text [] old new rows → rows ≡ map hold_values (map hold_entry t.holds)
shows_placed old new rows t s keyed h =
    by_key holdings placed_holds asks_placed [] old new s.schema.common.holds t s.holds keyed rows h (λ _. true) (λ _. refl)
    (λ x. hold_values (hold_entry x)) (λ _. refl) (λ x y. last_key (value_cmp-Int (hold_key x) (hold_key y)))
    ∙ ap (map (λ (x : Hold). hold_values (hold_entry x))) (unfiltered t.holds refl) ∙ sym (map-map hold_values hold_entry t.holds)

pub shows_stored : (old new : State) (rows : List Row) (t : Tables) → Stores old.now t → AreKeyed t
    → Shown stored_dues.text [] old new rows → rows ≡ map due_values t.dues
shows_stored old new rows t s keyed h =
    by_key dues stored_dues asks_stored [] old new s.schema.dues t s.dues keyed rows h (λ _. true) (λ _. refl) due_values (λ _. refl)
    (λ x y. last_key (value_cmp-Int (due_key x) (due_key y)))
    ∙ ap (map due_values) (unfiltered t.dues refl)

pub shows_classes : (old new : State) (rows : List Row) (t : Tables) (cs : List ClassEntry) → StoresCommon old.now t
    → AreKeyed t → AreClassRows t cs → Shown all_classes.text [] old new rows → rows ≡ map class_values cs
shows_classes old new rows t cs s keyed are h =
    by_order classes all_classes asks_classes [] old new s.schema.classes t s.classes keyed rows h class_entry
    (λ c. (Text c.path ∷ [], class_values c)) (λ _. refl) (λ _. true) (λ _. refl) _
    (λ x y less. last_key (value_cmp-Text x.path y.path) ∙ less) cs are.same are.in_order
    ∙ ap (map class_values) (unfiltered cs refl)

pub shows_schedules : (old new : State) (rows : List Row) (t : Tables) (rs : List Rule) → Stores old.now t → AreKeyed t
    → AreRules t rs → Shown all_schedules.text [] old new rows → rows ≡ map rule_values rs
shows_schedules old new rows t rs s keyed are h =
    by_order schedules all_schedules asks_schedules [] old new s.schema.schedules t s.schedules keyed rows h rule
    (λ r. (Text r.path ∷ [], rule_values r)) (λ _. refl) (λ _. true) (λ _. refl) _
    (λ x y less. last_key (value_cmp-Text x.path y.path) ∙ less) rs are.same are.in_order
    ∙ ap (map rule_values) (unfiltered rs refl)

pub shows_settings : (old new : State) (rows : List Row) (t : Tables) (ps : List Pair) → StoresCommon old.now t
    → AreKeyed t → ArePairs t ps → Shown all_settings.text [] old new rows → rows ≡ map pair_values ps
shows_settings old new rows t ps s keyed are h =
    by_order settings all_settings asks_settings [] old new s.schema.settings t s.settings keyed rows h pair
    (λ x. (Text x.key ∷ [], pair_values x)) (λ _. refl) (λ _. true) (λ _. refl) _
    (λ x y less. last_key (value_cmp-Text x.key y.key) ∙ less) ps are.same are.in_order
    ∙ ap (map pair_values) (unfiltered ps refl)

pub shows_holds : (old new : State) (rows : List Row) (t : Tables) (hs : List HoldEntry) → StoresCommon old.now t
    → AreKeyed t → AreHolds t hs → Shown all_holds.text [] old new rows → rows ≡ map hold_values hs
shows_holds old new rows t hs s keyed are h =
    by_order holdings all_holds asks_holds [] old new s.schema.holds t s.holds keyed rows h hold_entry
    (λ x. (Int (pos x.number) ∷ Text x.name ∷ [], hold_values x)) (λ _. refl) (λ _. true) (λ _. refl) _
    (λ x y less. then_key (value_cmp-Int (pos x.number) (pos y.number)) (last_key (value_cmp-Text x.name y.name)) ∙ less) hs are.same are.in_order
    ∙ ap (map hold_values) (unfiltered hs refl)

-- ---- the state after a query

-- a query that fails changes nothing, or rolls back
pub failed_still : (sql : List ℕ) (params : Row) (old new : State) (e : Error) → FailsToQuery sql params old new e
    → IsUnchanged old new ⊎ IsRolledBack old new
unfolding FailsToQuery IsNotRun
failed_still sql params old new e (inl (inl h)) = inl h.1
failed_still sql params old new e (inl (inr h)) = inr h.3
failed_still sql params old new e (inr h) = go h.0.returning h.2
  where
    go : (o : Option Returning) → FailsToShow old new sql h.0 (timed params h.0.formats h.1.now) e o → IsUnchanged old new ⊎ IsRolledBack old new
    go None it = inl it.3
    go (Some what) (inl it) = inl it.1
    go (Some what) (inr it) = inr it.3

-- outside a transaction, the visible database is then as before
pub still_seen : (old new : State) → (IsTrue old.is_open → old.now ≡ old.committed)
    → IsUnchanged old new ⊎ IsRolledBack old new → IsTrue new.is_open → IsTrue old.is_open × (new.now ≡ old.now)
still_seen old new settled (inl h) is_open = (h.0.was_open, h.0.now_is)
still_seen old new settled (inr h) is_open = let was = h.was_open is_open in (was, (h.undone is_open).0 ∙ sym (settled was))
