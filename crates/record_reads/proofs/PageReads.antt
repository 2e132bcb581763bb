-- What the queries of a page show of the tables.
use Rattle.std.proofs.Common.{◌≡◌, ◌<◌, ◌^◌, ◌&&◌, ℕ, pos, Bool, true, false, cond, List, [], ◌∷◌, map, filter, take, codes, int_le, refl}
use Rattle.std.proofs.Common.{◌∙◌, arith}
use Rattle.std.specs.List.{AllByRecursion}
use Rattle.std.proofs.lemmas.Int.{ints}
use Rattle.std.proofs.lemmas.List.{take-map}
use Rattle.sqlite.specs.declared.types.Value.TheVariants.{Int, Text}
use Rattle.sqlite.specs.Order.{Row}
use Rattle.sqlite.specs.State.{State, Shown}
use Rattle.sqlite_sql.specs.declared.ops.CompareOp.TheVariants.{Ge, Le}
use Rattle.sqlite_value.proofs.OrderLemmas.{value_cmp-Int, value_cmp-Text}
use Rattle.sqlite_typed.proofs.TestLemmas.{last_key, then_key, last_term, then_term, at_ints}
use Rattle.record_items.specs.Items.{Record}
use Rattle.record_tables.proofs.Described.{records, holds}
use Rattle.record_tables.specs.Rows.{Tables, Stores, AreKeyed, record_key}
use Rattle.record_tables.specs.Reads.{HoldEntry, hold_entry, hold_values, AreHolds, FitsHold, record_values}
use Rattle.record_reads.specs.Pages.{is_from, records_from, is_between}
use Rattle.record_reads.proofs.Queries.{records_at, asks_from, holds_on, asks_between}
use Rattle.record_reads.proofs.ReadLemmas.{by_key, by_order}

-- the records from a number on are answered in the order of their numbers, up to the limit
pub shows_from : (old new : State) (rows : List Row) (from most : ℕ) (t : Tables) → Stores old.now t → AreKeyed t
    → Shown records_at.text (Int (pos from) ∷ Int (pos most) ∷ []) old new rows
    → rows ≡ map record_values (take most (records_from from t))
shows_from old new rows from most t s keyed h =
    by_key records records_at asks_from (Int (pos from) ∷ Int (pos most) ∷ []) old new s.schema.common.records t s.records keyed rows h (is_from from)
    (λ r. last_term (at_ints false Ge (pos r.number) (pos from))) record_values (λ _. refl)
    (λ x y. last_key (value_cmp-Int (record_key x) (record_key y)))
    ∙ take-map record_values most (records_from from t)

-- the holds between two numbers are answered by record and then by name
pub shows_between : (old new : State) (rows : List Row) (first last : ℕ) (t : Tables) (hs : List HoldEntry)
    → Stores old.now t → AreKeyed t → AreHolds t hs
    → Shown holds_on.text (Int (pos first) ∷ Int (pos last) ∷ []) old new rows → rows ≡ map hold_values (filter (is_between first last) hs)
shows_between old new rows first last t hs s keyed are h =
    by_order holds holds_on asks_between (Int (pos first) ∷ Int (pos last) ∷ []) old new s.schema.common.holds t s.holds keyed rows h hold_entry
    (λ x. (Int (pos x.number) ∷ Text x.name ∷ [], hold_values x)) (λ _. refl) (is_between first last)
    (λ x. then_term (at_ints false Ge (pos x.number) (pos first)) (last_term (at_ints false Le (pos x.number) (pos last)))) _
    (λ x y less. then_key (value_cmp-Int (pos x.number) (pos y.number)) (last_key (value_cmp-Text x.name y.name)) ∙ less) hs are.same are.in_order

-- a number up to one that fits in 32 bits fits
fits : (n last : ℕ) → last < 2 ^ 32 → int_le (pos n) (pos last) ≡ true → n < 2 ^ 32
fits n last low h = grind (arith, ints, low, h)

pub all_fit : (first last : ℕ) → last < 2 ^ 32 → (hs : List HoldEntry) → AllByRecursion FitsHold (filter (is_between first last) hs)
all_fit first last low [] = tt
all_fit first last low (h ∷ hs) = go (int_le (pos first) (pos h.number)) (int_le (pos h.number) (pos last)) refl (all_fit first last low hs)
  where
    go : (a b : Bool) → int_le (pos h.number) (pos last) ≡ b → AllByRecursion FitsHold (filter (is_between first last) hs)
        → AllByRecursion FitsHold (cond (a && b) (h ∷ filter (is_between first last) hs) (filter (is_between first last) hs))
    go true true e more = (fits h.number last low e, more)
    go true false e more = more
    go false b e more = more

-- ---- worked rows

abbrev kept : ℕ → Record
kept n = record { number = n; message = 1; path = codes "tax"; day = 10; destroyed = false }

abbrev some_tables : Tables
some_tables = record {
  messages = [];
  records = kept 1 ∷ kept 2 ∷ kept 4 ∷ kept 5 ∷ [];
  holds = [];
  settings = [];
  classes = [];
  schedules = [];
  dues = [];
}

row_from_2 : take 2 (records_from 2 some_tables) ≡ kept 2 ∷ kept 4 ∷ []
row_from_2 = refl

row_from_3 : take 9 (records_from 3 some_tables) ≡ kept 4 ∷ kept 5 ∷ []
row_from_3 = refl

row_from_6 : take 9 (records_from 6 some_tables) ≡ []
row_from_6 = refl

abbrev hold_on : ℕ → HoldEntry
hold_on n = record { name = codes "audit"; number = n }

row_between : filter (is_between 2 4) (hold_on 1 ∷ hold_on 2 ∷ hold_on 4 ∷ hold_on 5 ∷ []) ≡ hold_on 2 ∷ hold_on 4 ∷ []
row_between = refl
