-- What the queries of events show of their table.
use Rattle.std.proofs.Common.{◌≡◌, ◌<◌, ◌≤◌, ◌^◌, ℕ, pos, Bool, true, Option, None, Some}
use Rattle.std.proofs.Common.{List, [], ◌∷◌, ◌++◌, map, map-id, filter, take, length, reverse, codes}
use Rattle.std.proofs.Common.{int_le, refl, sym, ap, subst, ◌∙◌, slice_get, Less, int_cmp, IsPermutation, false, arith, zero, suc}
use Rattle.std.specs.List.{AllByRecursion, list_all}
use mathlib.Core.List.{reverse-cons}
use Rattle.std.proofs.lemmas.List.{take-map}
use Rattle.std.proofs.lemmas.List.Sorted.{IsPermutation-reverse, IsPermutation-map, IsPermutation-trans, IsPermutation-sym}
use Rattle.sqlite.specs.declared.types.Value.TheVariants.{Null, Int, Text}
use Rattle.sqlite.specs.Order.{Row}
use Rattle.sqlite.specs.Schema.{Schema}
use Rattle.sqlite.specs.Tree.{Trees}
use Rattle.sqlite.specs.Term.{Term, col, op2, lit, holds, eval_all}
use Rattle.sqlite.specs.Query.{Query, IsAnswer, Output, output, output_cmp, inner, end}
use Rattle.sqlite.specs.State.{State, Shown}
use Rattle.sqlite.specs.Collation.{Collation}
use Rattle.sqlite.specs.Collation.TheVariants.{Binary}
use Rattle.sqlite_sql.specs.Program.{overlay}
use Rattle.sqlite_sql.specs.Query.{page}
use Rattle.sqlite_sql.specs.declared.ops.BinaryOp.TheVariants.{Compare}
use Rattle.sqlite_sql.specs.declared.ops.CompareOp.TheVariants.{Ge}
use Rattle.sqlite_sql.proofs.QueryLemmas.{output_cmp_total}
use Rattle.sqlite_value.specs.Keys.{ascending}
use Rattle.sqlite_value.specs.declared.keys.Key.{Key}
use Rattle.sqlite_value.proofs.OrderLemmas.{value_cmp-Int}
use Rattle.sqlite_trees.specs.Tree.{IsAscending}
use Rattle.sqlite_keyed.proofs.ListLemmas.{ascending-map, ascending_weaker, map-map, map_same}
use Rattle.sqlite_keyed.proofs.SortLemmas.{sorted_unique}
use Rattle.sqlite_tied.specs.Compute.{everything}
use Rattle.sqlite_typed.proofs.AnswerLemmas.{Source, last_table, at_end, answer_by_keys, matches_are, unfiltered}
use Rattle.sqlite_typed.proofs.TestLemmas.{last_key, last_term, at_ints}
use Rattle.record_tables.proofs.Compiling.{Draft, IsRead, IsTyped, IsQueryOne, parsed_from, draft_of, means_query_one}
use Rattle.record_tables.proofs.Texts.{on_table}
use Rattle.record_tables.proofs.Described.{seen}
use Rattle.record_tables.specs.Tables.{Stands}
use Rattle.record_tables.specs.Events.{Event, event_table, event_key, event_row, StoresEvents}
use Rattle.record_reads.specs.Events.{event_values, ReadsEvent, FitsEvent, is_event_from, events_from, last_of}
use Rattle.record_reads.proofs.Queries.{Asked, AsksFor, query}
use Rattle.record_reads.proofs.ReadLemmas.{answers}

-- ---- the queries

abbrev event_columns : List Term
event_columns = col 1 0 ∷ col 1 2 ∷ col 1 3 ∷ []

abbrev event_names : List (List ℕ)
event_names = codes "number" ∷ codes "line" ∷ codes "mark" ∷ []

abbrev pub last_asked : Asked
last_asked = record {
  text = codes "SELECT number, line, mark FROM event ORDER BY number DESC LIMIT 1";
  tests = [];
  columns = event_columns;
  names = event_names;
  order = (col 1 0, record { collation = Binary; descending = true }) ∷ [];
  page = (lit (Int (pos 1)), lit (Int (pos 0)));
}

abbrev pub page_asked : Asked
page_asked = record {
  text = codes "SELECT number, line, mark FROM event WHERE number >= ?1 ORDER BY number LIMIT ?2";
  tests = op2 (Compare Ge Binary) (col 1 0) (col 0 0) ∷ [];
  columns = event_columns;
  names = event_names;
  order = (col 1 0, ascending Binary) ∷ [];
  page = (col 0 1, lit (Int (pos 0)));
}

abbrev draft : Asked → ℕ → Draft
draft q tree = record (draft_of (inner tree end) q.tests q.columns q.order) { limit = q.page.0; offset = q.page.1 }

abbrev event_keys : List (Option Collation)
event_keys = None ∷ Some Binary ∷ Some Binary ∷ []

asks : (schema : Schema) (is : Stands schema event_table) (q : Asked) → IsRead q.text → IsTyped (event_table ∷ []) (query q is.tree)
    → IsQueryOne schema event_table is q.page (draft q is.tree) q.names event_keys (parsed_from q.text).statement → AsksFor schema q is.tree
asks schema is q read typed h = means_query_one schema event_table is q.page (draft q is.tree) q.names event_keys q.text read refl typed h

asks_last : (schema : Schema) (is : Stands schema event_table) → AsksFor schema last_asked is.tree
unfolding everything
asks_last schema is = asks schema is last_asked (refl, refl) refl
    (refl, refl, refl, (tt, tt), ((0, refl, is.named), tt), (tt, tt), (tt, (tt, (tt, tt))), tt, refl, refl, (tt, tt), refl)

asks_page : (schema : Schema) (is : Stands schema event_table) → AsksFor schema page_asked is.tree
unfolding everything
asks_page schema is = asks schema is page_asked (refl, refl) refl
    (refl, refl, refl, (tt, tt), ((0, refl, is.named), tt), (tt, tt), (tt, (tt, (tt, tt))), (tt, tt, tt), refl, refl, (tt, tt), refl)

-- ---- lists backwards

all_snoc : {X : Type 0} (P : X → Type 0) (xs : List X) (x : X) → AllByRecursion P xs → P x → AllByRecursion P (xs ++ x ∷ [])
all_snoc P [] x h p = (p, tt)
all_snoc P (y ∷ xs) x h p = (h.0, all_snoc P xs x h.1 p)

pub all_reverse : {X : Type 0} (P : X → Type 0) (xs : List X) → AllByRecursion P xs → AllByRecursion P (reverse xs)
all_reverse P [] h = tt
all_reverse P (x ∷ xs) h = subst (AllByRecursion P) (sym (reverse-cons x xs)) (all_snoc P (reverse xs) x (all_reverse P xs h.1) h.0)

ascending_snoc : {X : Type 0} (R : X → X → Type 0) (xs : List X) (x : X) → IsAscending R xs → AllByRecursion (λ y. R y x) xs
    → IsAscending R (xs ++ x ∷ [])
ascending_snoc R [] x up below = (tt, tt)
ascending_snoc R (y ∷ xs) x up below = (all_snoc (R y) xs x up.0 below.0, ascending_snoc R xs x up.1 below.1)

ascending_reverse : {X : Type 0} (R : X → X → Type 0) (xs : List X) → IsAscending R xs → IsAscending (λ x y. R y x) (reverse xs)
ascending_reverse R [] up = tt
ascending_reverse R (x ∷ xs) up =
    subst (IsAscending (λ a b. R b a)) (sym (reverse-cons x xs))
    (ascending_snoc (λ a b. R b a) (reverse xs) x (ascending_reverse R xs up.1) (all_reverse (R x) xs up.0))

first_snoc : {X : Type 0} (xs : List X) (x y : X) → slice_get ((xs ++ x ∷ []) ++ y ∷ []) 0 ≡ slice_get (xs ++ x ∷ []) 0
first_snoc [] x y = refl
first_snoc (z ∷ xs) x y = refl

first_reverse : (es : List Event) → slice_get (reverse es) 0 ≡ last_of es
first_reverse [] = refl
first_reverse (e ∷ []) = refl
first_reverse (e ∷ f ∷ es) =
    ap (λ l. slice_get l 0) (reverse-cons e (f ∷ es) ∙ ap (λ l. l ++ e ∷ []) (reverse-cons f es)) ∙ first_snoc (reverse es) f e
    ∙ ap (λ l. slice_get l 0) (sym (reverse-cons f es)) ∙ first_reverse (f ∷ es)

first_taken : {X : Type 0} (xs : List X) → slice_get (take 1 xs) 0 ≡ slice_get xs 0
first_taken [] = refl
first_taken (x ∷ xs) = refl

pub last_taken : (es : List Event) → slice_get (take 1 (reverse es)) 0 ≡ last_of es
last_taken es = first_taken (reverse es) ∙ first_reverse es

pub few_taken : {X : Type 0} (xs : List X) → length (take 1 xs) ≤ 1
few_taken [] = omega arith
few_taken (x ∷ xs) = omega arith

pub all_taken : {X : Type 0} (P : X → Type 0) (n : ℕ) (xs : List X) → AllByRecursion P xs → AllByRecursion P (take n xs)
all_taken P zero xs h = tt
all_taken P (suc n) [] h = tt
all_taken P (suc n) (x ∷ xs) h = (h.0, all_taken P n xs h.1)

-- ---- what they show

module _ (q : Asked) (asked_of : (schema : Schema) (is : Stands schema event_table) → AsksFor schema q is.tree) (params : Row) (old new : State)
    (rows : List Row) (es : List Event) (s : StoresEvents old.now es) (h : Shown q.text params old new rows) where
  abbrev asked : Query
  asked = query q s.stands.tree

  abbrev db : Trees
  db = overlay old.now.trees []

  abbrev source : Source db (inner s.stands.tree end) Event
  source = last_table db s.stands.tree event_row event_key es (seen old.now.trees s.stands.tree ∙ s.rows) s.keyed (at_end db)

  abbrev answer : IsAnswer asked db params rows
  answer = answers q s.stands.tree params old new rows (asked_of old.now.schema s.stands) h

  by_key : (p : Event → Bool) → ((x : Event) → list_all (holds (params ∷ event_row x ∷ [])) q.tests ≡ p x)
      → ((x : Event) → eval_all q.columns (params ∷ event_row x ∷ []) ≡ event_values x)
      → ((x y : Event) → output_cmp asked (output asked (params ∷ event_row x ∷ [])) (output asked (params ∷ event_row y ∷ []))
      ≡ int_cmp (event_key x) (event_key y)) → rows ≡ page asked params (map event_values (filter p es))
  by_key p tests shows in_order =
      sym (map-id rows) ∙ answer_by_keys asked db params source p tests (λ r. r) event_values shows refl refl in_order rows answer

  -- all of them, backwards
  backwards : ((x : Event) → list_all (holds (params ∷ event_row x ∷ [])) q.tests ≡ true)
      → ((x : Event) → (output asked (params ∷ event_row x ∷ [])).1 ≡ event_values x)
      → ((x y : Event) → int_cmp (event_key y) (event_key x) ≡ Less
      → output_cmp asked (output asked (params ∷ event_row x ∷ [])) (output asked (params ∷ event_row y ∷ [])) ≡ Less)
      → rows ≡ page asked params (map event_values (reverse es))
  backwards tests shows in_order =
      let out : Event → Output = λ x. output asked (params ∷ event_row x ∷ []) in
      let kept : answer.kept ≡ map out es = answer.distinct ∙ ap (map (output asked)) (answer.grouped ∙ matches_are asked db params source (λ _. true)
      tests) ∙ map-map (output asked) _ _ ∙ ap (map out) (unfiltered es refl) in
      let still : IsPermutation (map out es) answer.ordered = subst (λ l. IsPermutation l answer.ordered) kept answer.same in
      let turned : IsPermutation (reverse es) es = IsPermutation-sym _ _ (IsPermutation-reverse es) in
      let whole = IsPermutation-trans (map out (reverse es)) _ answer.ordered (IsPermutation-map out _ _ turned) still in
      let falls = ascending_reverse (λ (x y : Event). int_cmp (event_key x) (event_key y) ≡ Less) es source.rises in
      let up = ascending-map (λ x y. output_cmp asked x y ≡ Less) out (reverse es) (ascending_weaker (λ (x y : Event).
      int_cmp (event_key y) (event_key x) ≡ Less) (λ x y. output_cmp asked (out x) (out y) ≡ Less) in_order (reverse es) falls) in
      let ordered = sorted_unique (output_cmp asked) (output_cmp_total asked) (map out (reverse es)) answer.ordered up whole answer.sorted in
      answer.shown ∙ ap (λ l. page asked params (map (λ (o : Output). o.1) l)) ordered
      ∙ ap (page asked params) (map-map (λ (o : Output). o.1) out (reverse es) ∙ map_same _ event_values shows (reverse es))

pub shows_last : (old new : State) (rows : List Row) (es : List Event) → StoresEvents old.now es
    → Shown last_asked.text [] old new rows → rows ≡ map event_values (take 1 (reverse es))
shows_last old new rows es s h =
    backwards last_asked asks_last [] old new rows es s h (λ _. refl) (λ _. refl)
    (λ x y less. last_key (value_cmp-Int (event_key y) (event_key x)) ∙ less)
    ∙ take-map event_values 1 (reverse es)

pub shows_page : (old new : State) (rows : List Row) (from most : ℕ) (es : List Event) → StoresEvents old.now es
    → Shown page_asked.text (Int (pos from) ∷ Int (pos most) ∷ []) old new rows → rows ≡ map event_values (take most (events_from from es))
shows_page old new rows from most es s h =
    by_key page_asked asks_page (Int (pos from) ∷ Int (pos most) ∷ []) old new rows es s h (is_event_from from)
    (λ e. last_term (at_ints false Ge (pos e.number) (pos from))) (λ _. refl) (λ x y. last_key (value_cmp-Int (event_key x) (event_key y)))
    ∙ take-map event_values most (events_from from es)

-- ---- one row

pub one_event : (e f : Event) → ReadsEvent (event_values e) f → f ≡ e
one_event e f h =
    let number : f.number ≡ e.number = let p = h.number in cc in
    let line : f.line ≡ e.line = let p = h.line in cc in
    let mark : f.mark ≡ e.mark = let p = h.mark in cc in
    λ i. record { number = number i; line = line i; mark = mark i }

pub can_event : (e : Event) → FitsEvent e → (f : Event) × (FitsEvent f × ReadsEvent (event_values e) f)
can_event e fits = (e, (fits, record { number = refl; line = refl; mark = refl }))
