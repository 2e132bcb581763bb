-- What the query of due records shows of the tables.
use Rattle.std.proofs.Common.{◌≡◌, ◌≤◌, ℕ, pos, List, [], ◌∷◌, map, filter, length, true, false, None, Some}
use Rattle.std.proofs.Common.{cond, codes, refl, sym, ap, subst, ◌∙◌, Ordering, Less, Equal, Greater, is_gt}
use Rattle.std.proofs.Common.{is_eq, int_cmp, true≢false, IsPermutation, arith}
use Rattle.std.specs.List.{AllByRecursion}
use Rattle.std.specs.Cmp.{IsTotalOrder}
use Rattle.std.specs.Ordering.{ordering_reverse}
use Rattle.std.proofs.lemmas.Cmp.{int_cmp_total, on_total, then_total}
use Rattle.std.proofs.lemmas.List.Sorted.{IsPermutation-map, IsPermutation-trans}
use Rattle.sqlite.specs.declared.types.Value.TheVariants.{Null, Int}
use Rattle.sqlite.specs.Order.{Row}
use Rattle.sqlite.specs.Term.{Term, col, op2}
use Rattle.sqlite.specs.Query.{Query, inner, end, IsAnswer, Output, output, output_cmp}
use Rattle.sqlite.specs.Command.TheVariants.{Select}
use Rattle.sqlite.specs.State.{State, Shown}
use Rattle.sqlite.proofs.Callers.{reads_as}
use Rattle.sqlite_tied.specs.Compute.{everything}
use Rattle.sqlite_sql.specs.Program.{overlay}
use Rattle.sqlite_sql.proofs.QueryLemmas.{output_cmp_total}
use Rattle.sqlite_sql.specs.declared.ops.BinaryOp.TheVariants.{Compare}
use Rattle.sqlite_sql.specs.declared.ops.CompareOp.TheVariants.{Eq, Le}
use Rattle.sqlite.specs.Collation.TheVariants.{Binary}
use Rattle.sqlite_value.specs.Keys.{ascending}
use Rattle.sqlite_value.proofs.OrderLemmas.{value_cmp-Int}
use Rattle.sqlite_trees.specs.Tree.{IsAscending}
use Rattle.sqlite_keyed.specs.Lists.{sort_by, insert_sorted}
use Rattle.sqlite_keyed.proofs.ListLemmas.{IsPermutation-flat_map, all_weaker, all-map, all-flat_map, ascending-append}
use Rattle.sqlite_keyed.proofs.ListLemmas.{ascending-map, ascending_weaker, ascending-filter, map-map}
use Rattle.sqlite_keyed.proofs.ListLemmas.{map-flat_map, flat_map_same_on}
use Rattle.sqlite_keyed.proofs.KeyedLemmas.{Less-from_lt}
use Rattle.sqlite_keyed.proofs.SortLemmas.{sorted_unique, IsPermutation-sort_by}
use Rattle.sqlite_keyed.proofs.RuleLemmas.{at_most_one}
use Rattle.sqlite_typed.proofs.AnswerLemmas.{last_table, next_table, at_end, matches_are, no_tie, no_tie_after}
use Rattle.sqlite_typed.proofs.TestLemmas.{last_key, then_key, last_term, then_term, at_ints}
use Rattle.sqlite.specs.Schema.{Schema}
use Rattle.record_tables.specs.Tables.{IsArchiveSchema, record_table, due_table}
use Rattle.record_tables.proofs.Described.{seen}
use Rattle.record_tables.proofs.Compiling.{Draft, Means, no_page, draft_of, means_query_two}
use Rattle.record_items.specs.Items.{Record}
use Rattle.record_tables.specs.Rows.{Tables, Stores, AreKeyed, record_key, record_row, Due, due_key, due_row}
use Rattle.record_tables.specs.Reads.{is_by, due_cmp, dues_by}
use Rattle.record_reads.specs.DueRecords.{DueRecord, due_record, is_of, with_records, due_records_by, due_record_values}
use Rattle.record_reads.specs.DueRecords.{ReadsDueRecord, FitsDueRecord}
use Rattle.record_tables.proofs.Texts.{on_table, alone}
use Rattle.record_reads.proofs.Joins.{beside, joined as joined_by, is_asked, asked_is}

abbrev pub select_due_records : List ℕ
select_due_records =
    codes "SELECT due_day.record, due_day.day, record.path FROM due_day JOIN record ON record.number = due_day.record WHERE due_day.day <= ?1 ORDER BY due_day.day, due_day.record"

abbrev due_record_test : List Term
due_record_test = op2 (Compare Eq Binary) (col 2 0) (col 1 0) ∷ op2 (Compare Le Binary) (col 1 2) (col 0 0) ∷ []

abbrev due_records_draft : (dues records : ℕ) → Draft
due_records_draft dues records = draft_of (inner dues (inner records end)) due_record_test (col 1 0 ∷ col 1 2 ∷ col 2 3 ∷ [])
    ((col 1 2, ascending Binary) ∷ (col 1 0, ascending Binary) ∷ [])

abbrev pub due_records_query : (dues records : ℕ) → Query
due_records_query dues records = record (on_table dues due_record_test (col 1 0 ∷ col 1 2 ∷ col 2 3 ∷ [])) {
  from = inner dues (inner records end);
  order = (col 1 2, ascending Binary) ∷ (col 1 0, ascending Binary) ∷ [];
}

pub select_due_records_is : (schema : Schema) (has : IsArchiveSchema schema)
    → Means schema select_due_records (Select (alone (due_records_query has.dues.tree has.common.records.tree)) (codes "record" ∷ codes "day"
    ∷ codes "path" ∷ []))
unfolding everything
select_due_records_is schema has =
    means_query_two schema due_table record_table has.dues has.common.records no_page (due_records_draft has.dues.tree has.common.records.tree)
    (codes "record" ∷ codes "day" ∷ codes "path" ∷ []) (None ∷ Some Binary ∷ Some Binary ∷ []) select_due_records (refl, refl) refl refl (
      refl,
      refl,
      refl,
      (tt, (tt, tt)),
      ((0, refl, has.dues.named), ((1, refl, has.common.records.named), tt)),
      (tt, ((tt, tt, tt), tt)),
      (tt, (tt, (tt, tt))),
      (tt, tt, tt),
      refl,
      refl,
      (tt, (tt, tt)),
      refl,
    )

-- ---- due days in their order

due_cmp_total : IsTotalOrder due_cmp
due_cmp_total = then_total (on_total (λ (d : Due). pos d.day) int_cmp_total) (on_total (λ (d : Due). pos d.number) int_cmp_total)

module _ {X : Type 0} (cmp : X → X → Ordering) (total : IsTotalOrder cmp) where
  all-insert : (P : X → Type 0) (new : X) (xs : List X) → P new → AllByRecursion P xs → AllByRecursion P (insert_sorted cmp new xs)
  all-insert P new [] h all = (h, tt)
  all-insert P new (x ∷ xs) h all =
      elim (is_gt (cmp new x)) as (λ b. AllByRecursion P (cond b (x ∷ insert_sorted cmp new xs) (new ∷ x ∷ xs))) [
        | true
            ↦ (all.0, all-insert P new xs h all.1)
        | false ↦ (h, all)
      ]

  all-sort : (P : X → Type 0) (xs : List X) → AllByRecursion P xs → AllByRecursion P (sort_by cmp xs)
  all-sort P [] all = tt
  all-sort P (x ∷ xs) all = all-insert P x _ all.0 (all-sort P xs all.1)

  abbrev Rises : List X → Type 0
  Rises = IsAscending (λ a b. cmp a b ≡ Less)

  rises-insert : (new : X) (xs : List X) → AllByRecursion (λ y. is_eq (cmp new y) ≡ false) xs → Rises xs → Rises (insert_sorted cmp new xs)
  rises-insert new [] apart up = (tt, tt)
  rises-insert new (x ∷ xs) apart up = go (cmp new x) refl (rises-insert new xs apart.1 up.1)
    where
      go : (o : Ordering) → cmp new x ≡ o → Rises (insert_sorted cmp new xs) → Rises (cond (is_gt o) (x ∷ insert_sorted cmp new xs) (new ∷ x ∷ xs))
      go Less e more = ((e, all_weaker _ (λ y. cmp new y ≡ Less) (λ y. total.trans new x y e) xs up.0), up)
      go Equal e more = absurd (true≢false (sym (ap is_eq e) ∙ apart.0))
      go Greater e more = (all-insert _ new xs (total.antisymm x new ∙ ap ordering_reverse e) up.0, more)

  rises-sort : (xs : List X) → IsAscending (λ a b. is_eq (cmp a b) ≡ false) xs → Rises (sort_by cmp xs)
  rises-sort [] apart = tt
  rises-sort (x ∷ xs) apart = rises-insert x _ (all-sort _ xs apart.0) (rises-sort xs apart.1)

dues_rise : (day : ℕ) (t : Tables) → AreKeyed t → IsAscending (λ a b. due_cmp a b ≡ Less) (dues_by day t)
dues_rise day t keyed =
    rises-sort due_cmp due_cmp_total (filter (is_by day) t.dues)
    (ascending-filter _ (is_by day) t.dues
    (ascending_weaker _ (λ x y. is_eq (due_cmp x y) ≡ false) (λ x y low.
    (no_tie_after (int_cmp (pos x.day) (pos y.day)) (no_tie (Less-from_lt (due_key x) (due_key y) low))).apart)
    t.dues keyed.dues))

-- ---- a due day beside each record

abbrev Pair : Type 0
Pair = Due × Record

abbrev joined : List Record → List Due → List Pair
joined = joined_by is_of

few_rise : (R : Pair → Pair → Type 0) (d : Due) (rs : List Record) → length rs ≤ 1 → IsAscending R (map (beside d) rs)
few_rise R d [] few = tt
few_rise R d (r ∷ []) few = (tt, tt)
few_rise R d (r ∷ q ∷ rs) few = absurd (omega arith)

joined_rises : (rs : List Record) (ds : List Due) → ((d : Due) → length (filter (is_of d) rs) ≤ 1)
    → IsAscending (λ a b. due_cmp a b ≡ Less) ds → IsAscending (λ (a b : Pair). due_cmp a.0 b.0 ≡ Less) (joined rs ds)
joined_rises rs [] few up = tt
joined_rises rs (d ∷ ds) few up =
    let R = λ (a b : Pair). due_cmp a.0 b.0 ≡ Less in
    ascending-append R (map (beside d) (filter (is_of d) rs)) (joined rs ds)
    (few_rise R d (filter (is_of d) rs) (few d)) (joined_rises rs ds few up.1)
    (all-map _ (beside d) (λ r.
    all-flat_map (R (beside d r)) _ ds (all_weaker _ (λ e.
    AllByRecursion (R (beside d r)) (map (beside e) (filter (is_of e) rs))) (λ e low.
    all-map (R (beside d r)) (beside e) (λ q. low) (filter (is_of e) rs)) ds up.0)) (filter (is_of d) rs))

shown_joined : (rs : List Record) (ds : List Due)
    → map (λ (a : Pair). due_record_values (due_record a.0 a.1)) (joined rs ds)
    ≡ map due_record_values (with_records rs ds)
shown_joined rs ds =
    map-flat_map _ _ ds
    ∙ flat_map_same_on _ _ (λ d.
    map-map (λ (a : Pair). due_record_values (due_record a.0 a.1)) (beside d) (filter (is_of d) rs)
    ∙ sym (map-map due_record_values (due_record d) (filter (is_of d) rs))) ds
    ∙ sym (map-flat_map due_record_values _ ds)

-- the due records are answered by their days, and on the same day by their numbers
pub shows_due_records : (old new : State) (rows : List Row) (day : ℕ) (t : Tables) → Stores old.now t → AreKeyed t
    → Shown select_due_records (Int (pos day) ∷ []) old new rows → rows ≡ map due_record_values (due_records_by day t)
shows_due_records old new rows day t s keyed h =
    let is = select_due_records_is old.now.schema s.schema in
    let params : Row = Int (pos day) ∷ [] in
    let read = reads_as select_due_records params old new old.now.schema refl _ is.is is.plain is.unlisted rows h in
    let q = due_records_query s.schema.dues.tree s.schema.common.records.tree in
    let db = overlay old.now.trees [] in
    let answer : IsAnswer q db params rows = read.answer Null in
    let source =
    next_table db s.schema.dues.tree due_row due_key t.dues (seen old.now.trees _ ∙ s.dues) keyed.dues
    (last_table db s.schema.common.records.tree record_row record_key t.records (seen old.now.trees _ ∙ s.records) keyed.records (at_end db)) in
    let out : Pair → Output = λ a. output q (params ∷ due_row a.0 ∷ record_row a.1 ∷ []) in
    let matched =
    matches_are q db params source (is_asked is_of (is_by day)) (λ a.
    then_term (at_ints false Eq (pos a.1.number) (pos a.0.number))
    (last_term (at_ints false Le (pos a.0.day) (pos day)))) in
    let ys = joined t.records (dues_by day t) in
    let kept : answer.kept ≡ map out (joined t.records (filter (is_by day) t.dues)) =
    answer.distinct ∙ ap (map (output q)) (answer.grouped ∙ matched) ∙ map-map (output q) _ _
    ∙ ap (map out) (asked_is is_of (is_by day) t.records t.dues) in
    let same : IsPermutation (map out (joined t.records (filter (is_by day) t.dues))) answer.ordered =
    subst (λ l. IsPermutation l answer.ordered) kept answer.same in
    let sorted : IsPermutation ys (joined t.records (filter (is_by day) t.dues)) =
    IsPermutation-flat_map _ (dues_by day t) (filter (is_by day) t.dues)
    (IsPermutation-sort_by due_cmp due_cmp_total (filter (is_by day) t.dues)) in
    let whole = IsPermutation-trans (map out ys) _ answer.ordered (IsPermutation-map out _ _ sorted) same in
    let few = λ (d : Due). at_most_one record_key (pos d.number) (is_of d) (λ x e. e) t.records keyed.records in
    let rises = ascending-map (λ x y. output_cmp q x y ≡ Less) out ys
    (ascending_weaker _ (λ (a b : Pair). output_cmp q (out a) (out b) ≡ Less) (λ a b less.
    then_key (value_cmp-Int (pos a.0.day) (pos b.0.day)) (last_key (value_cmp-Int (due_key a.0) (due_key b.0)))
    ∙ less) ys (joined_rises t.records (dues_by day t) few (dues_rise day t keyed))) in
    let ordered = sorted_unique (output_cmp q) (output_cmp_total q) (map out ys) answer.ordered rises whole answer.sorted in
    answer.shown ∙ ap (map (λ (o : Output). o.1)) ordered ∙ map-map (λ (o : Output). o.1) out ys ∙ shown_joined t.records (dues_by day t)

-- ---- what is read of a row

pub one_due_record : (r q : DueRecord) → ReadsDueRecord (due_record_values r) q → q ≡ r
one_due_record r q h =
    let number : q.number ≡ r.number = let e = h.number in cc in
    let day : q.day ≡ r.day = let e = h.day in cc in
    let path : q.path ≡ r.path = let e = h.path in cc in
    λ i. record { number = number i; day = day i; path = path i }

pub can_due_record : (r : DueRecord) → FitsDueRecord r → (q : DueRecord) × (FitsDueRecord q × ReadsDueRecord (due_record_values r) q)
can_due_record r fits = (r, (fits, record { number = refl; day = refl; path = refl }))

-- ---- a worked row

abbrev kept : ℕ → List ℕ → Record
kept n path = record { number = n; message = 1; path = path; day = 10; destroyed = false }

abbrev due : ℕ → ℕ → Due
due n day = record { number = n; day = day }

abbrev some_tables : Tables
some_tables = record {
  messages = [];
  records = kept 1 (codes "tax") ∷ kept 2 (codes "finance") ∷ kept 3 (codes "tax") ∷ kept 4 (codes "unfiled") ∷ [];
  holds = [];
  settings = [];
  classes = [];
  schedules = [];
  dues = due 1 30 ∷ due 2 20 ∷ due 3 31 ∷ due 4 20 ∷ [];
}

row_up_to_30 : due_records_by 30 some_tables ≡ record { number = 2; day = 20; path = codes "finance" }
    ∷ record { number = 4; day = 20; path = codes "unfiled" } ∷ record { number = 1; day = 30; path = codes "tax" } ∷ []
row_up_to_30 = refl

row_up_to_19 : due_records_by 19 some_tables ≡ []
row_up_to_19 = refl
