-- The meaning of each query of one table, under any schema that has the table.
use Rattle.std.proofs.Common.{List, [], ◌∷◌, ℕ, pos, codes, Option, None, Some, refl}
use Rattle.sqlite.specs.declared.types.Value.TheVariants.{Int}
use Rattle.sqlite.specs.Schema.{Schema}
use Rattle.sqlite.specs.Table.{Table}
use Rattle.sqlite.specs.Term.{Term, col, op2, lit}
use Rattle.sqlite.specs.Query.{Query, inner, end}
use Rattle.sqlite.specs.Command.TheVariants.{Select}
use Rattle.sqlite_value.specs.Keys.{ascending}
use Rattle.sqlite_value.specs.declared.keys.Key.{Key}
use Rattle.sqlite.specs.Collation.{Collation}
use Rattle.sqlite.specs.Collation.TheVariants.{Binary}
use Rattle.sqlite_sql.specs.declared.ops.BinaryOp.TheVariants.{Compare}
use Rattle.sqlite_sql.specs.declared.ops.CompareOp.TheVariants.{Ge, Le}
use Rattle.sqlite_tied.specs.Compute.{everything}
use Rattle.record_tables.specs.Tables.{Stands, message_table, record_table, hold_table, meta_table, class_table, schedule_table, due_table}
use Rattle.record_tables.proofs.Compiling.{Draft, Means, IsRead, IsTyped, IsQueryOne, parsed_from, no_page, draft_of, means_query_one}
use Rattle.record_tables.proofs.Texts.{on_table, alone, key_test, hold_test}

-- a query of one table: its text, the tests of a row, the columns that it shows and their names, the order, and LIMIT with OFFSET
pub record Asked : Type 0 where
  pub text : List ℕ
  pub tests : List Term
  pub columns : List Term
  pub names : List (List ℕ)
  pub order : List (Term × Key)
  pub page : Term × Term

abbrev pub query : Asked → ℕ → Query
query q tree = record (on_table tree q.tests q.columns) { order = q.order; limit = q.page.0; offset = q.page.1 }

-- under this schema the text asks that of the rows in this tree
abbrev pub AsksFor : Schema → Asked → ℕ → Type 0
AsksFor schema q tree = Means schema q.text (Select (alone (query q tree)) q.names)

abbrev draft : Asked → ℕ → Draft
draft q tree = record (draft_of (inner tree end) q.tests q.columns q.order) { limit = q.page.0; offset = q.page.1 }

asks : (schema : Schema) (t : Table) (is : Stands schema t) (q : Asked) (how : List (Option Collation)) → IsRead q.text
    → IsTyped (t ∷ []) (query q is.tree)
    → IsQueryOne schema t is q.page (draft q is.tree) q.names how (parsed_from q.text).statement → AsksFor schema q is.tree
asks schema t is q how read typed h = means_query_one schema t is q.page (draft q is.tree) q.names how q.text read refl typed h

-- ---- what they are made of

abbrev asked : List ℕ → List Term → List Term → List (List ℕ) → List (Term × Key) → Asked
asked text tests columns names order = record { text = text; tests = tests; columns = columns; names = names; order = order; page = no_page }

abbrev by : Term → List (Term × Key)
by column = (column, ascending Binary) ∷ []

abbrev by_record_and_name : List (Term × Key)
by_record_and_name = (col 1 2, ascending Binary) ∷ (col 1 1, ascending Binary) ∷ []

abbrev pub record_columns : List Term
record_columns = col 1 0 ∷ col 1 2 ∷ col 1 3 ∷ col 1 4 ∷ col 1 5 ∷ []

abbrev record_names : List (List ℕ)
record_names = codes "number" ∷ codes "message" ∷ codes "path" ∷ codes "day" ∷ codes "destroyed" ∷ []

abbrev record_keys : List (Option Collation)
record_keys = None ∷ Some Binary ∷ Some Binary ∷ Some Binary ∷ Some Binary ∷ []

abbrev hold_columns : List Term
hold_columns = col 1 1 ∷ col 1 2 ∷ []

abbrev hold_names : List (List ℕ)
hold_names = codes "name" ∷ codes "record" ∷ []

-- ---- whole tables

abbrev pub all_records : Asked
all_records = asked (codes "SELECT number, message, path, day, destroyed FROM record ORDER BY number") [] record_columns record_names (by (col 1 0))

pub asks_records : (schema : Schema) (is : Stands schema record_table) → AsksFor schema all_records is.tree
unfolding everything
asks_records schema is = asks schema record_table is all_records record_keys (refl, refl) refl
    (refl, refl, refl, (tt, tt), ((0, refl, is.named), tt), (tt, tt), (tt, (tt, (tt, (tt, (tt, tt))))), tt, refl, refl, (tt, tt), refl)

abbrev pub all_numbers : Asked
all_numbers = asked (codes "SELECT number FROM message ORDER BY number") [] (col 1 0 ∷ []) (codes "number" ∷ []) (by (col 1 0))

pub asks_numbers : (schema : Schema) (is : Stands schema message_table) → AsksFor schema all_numbers is.tree
unfolding everything
asks_numbers schema is = asks schema message_table is all_numbers (None ∷ []) (refl, refl) refl
    (refl, refl, refl, (tt, tt), ((0, refl, is.named), tt), (tt, tt), (tt, tt), tt, refl, refl, (tt, tt), refl)

abbrev pub all_holds : Asked
all_holds = asked (codes "SELECT name, record FROM hold ORDER BY record, name") [] hold_columns hold_names by_record_and_name

pub asks_holds : (schema : Schema) (is : Stands schema hold_table) → AsksFor schema all_holds is.tree
unfolding everything
asks_holds schema is = asks schema hold_table is all_holds (Some Binary ∷ Some Binary ∷ []) (refl, refl) refl
    (refl, refl, refl, (tt, tt), ((0, refl, is.named), tt), (tt, tt), (tt, (tt, tt)), tt, refl, refl, (tt, (tt, tt)), refl)

abbrev pub placed_holds : Asked
placed_holds = asked (codes "SELECT name, record FROM hold ORDER BY rowid") [] hold_columns hold_names (by (col 1 0))

pub asks_placed : (schema : Schema) (is : Stands schema hold_table) → AsksFor schema placed_holds is.tree
unfolding everything
asks_placed schema is = asks schema hold_table is placed_holds (Some Binary ∷ Some Binary ∷ []) (refl, refl) refl
    (refl, refl, refl, (tt, tt), ((0, refl, is.named), tt), (tt, tt), (tt, (tt, tt)), tt, refl, refl, (tt, tt), refl)

abbrev pub all_settings : Asked
all_settings = asked (codes "SELECT key, value FROM meta ORDER BY key") [] hold_columns (codes "key" ∷ codes "value" ∷ []) (by (col 1 1))

pub asks_settings : (schema : Schema) (is : Stands schema meta_table) → AsksFor schema all_settings is.tree
unfolding everything
asks_settings schema is = asks schema meta_table is all_settings (Some Binary ∷ Some Binary ∷ []) (refl, refl) refl
    (refl, refl, refl, (tt, tt), ((0, refl, is.named), tt), (tt, tt), (tt, (tt, tt)), tt, refl, refl, (tt, tt), refl)

abbrev pub all_classes : Asked
all_classes = asked (codes "SELECT path, is_open, schedule FROM class ORDER BY path") [] (col 1 1 ∷ col 1 2 ∷ col 1 3 ∷ [])
    (codes "path" ∷ codes "is_open" ∷ codes "schedule" ∷ []) (by (col 1 1))

pub asks_classes : (schema : Schema) (is : Stands schema class_table) → AsksFor schema all_classes is.tree
unfolding everything
asks_classes schema is = asks schema class_table is all_classes (Some Binary ∷ Some Binary ∷ Some Binary ∷ []) (refl, refl) refl
    (refl, refl, refl, (tt, tt), ((0, refl, is.named), tt), (tt, tt), (tt, (tt, (tt, tt))), tt, refl, refl, (tt, tt), refl)

abbrev pub all_schedules : Asked
all_schedules = asked (codes "SELECT path, count, unit, action, year_end FROM schedule ORDER BY path") []
    (col 1 1 ∷ col 1 2 ∷ col 1 3 ∷ col 1 4 ∷ col 1 5 ∷ [])
    (codes "path" ∷ codes "count" ∷ codes "unit" ∷ codes "action" ∷ codes "year_end" ∷ []) (by (col 1 1))

pub asks_schedules : (schema : Schema) (is : Stands schema schedule_table) → AsksFor schema all_schedules is.tree
unfolding everything
asks_schedules schema is = asks schema schedule_table is all_schedules
    (Some Binary ∷ Some Binary ∷ Some Binary ∷ Some Binary ∷ Some Binary ∷ []) (refl, refl) refl
    (refl, refl, refl, (tt, tt), ((0, refl, is.named), tt), (tt, tt), (tt, (tt, (tt, (tt, (tt, tt))))), tt, refl, refl, (tt, tt), refl)

abbrev pub stored_dues : Asked
stored_dues = asked (codes "SELECT record, day FROM due_day ORDER BY record") [] (col 1 0 ∷ col 1 2 ∷ []) (codes "record" ∷ codes "day" ∷ [])
    (by (col 1 0))

pub asks_stored : (schema : Schema) (is : Stands schema due_table) → AsksFor schema stored_dues is.tree
unfolding everything
asks_stored schema is = asks schema due_table is stored_dues (None ∷ Some Binary ∷ []) (refl, refl) refl
    (refl, refl, refl, (tt, tt), ((0, refl, is.named), tt), (tt, tt), (tt, (tt, tt)), tt, refl, refl, (tt, tt), refl)

-- ---- pages

abbrev pub records_at : Asked
records_at = record (asked (codes "SELECT number, message, path, day, destroyed FROM record WHERE number >= ?1 ORDER BY number LIMIT ?2")
    (op2 (Compare Ge Binary) (col 1 0) (col 0 0) ∷ []) record_columns record_names (by (col 1 0))) { page = (col 0 1, lit (Int (pos 0))) }

pub asks_from : (schema : Schema) (is : Stands schema record_table) → AsksFor schema records_at is.tree
unfolding everything
asks_from schema is = asks schema record_table is records_at record_keys (refl, refl) refl
    (refl, refl, refl, (tt, tt), ((0, refl, is.named), tt), (tt, tt), (tt, (tt, (tt, (tt, (tt, tt))))), (tt, tt, tt), refl, refl, (tt, tt), refl)

abbrev pub holds_on : Asked
holds_on = asked (codes "SELECT name, record FROM hold WHERE record >= ?1 AND record <= ?2 ORDER BY record, name")
    (op2 (Compare Ge Binary) (col 1 2) (col 0 0) ∷ op2 (Compare Le Binary) (col 1 2) (col 0 1) ∷ []) hold_columns hold_names by_record_and_name

pub asks_between : (schema : Schema) (is : Stands schema hold_table) → AsksFor schema holds_on is.tree
unfolding everything
asks_between schema is = asks schema hold_table is holds_on (Some Binary ∷ Some Binary ∷ []) (refl, refl) refl (
  refl,
  refl,
  refl,
  (tt, tt),
  ((0, refl, is.named), tt),
  (tt, tt),
  (tt, (tt, tt)),
  (tt, (tt, tt, tt), (tt, tt, tt)),
  refl,
  refl,
  (tt, (tt, tt)),
  refl,
)

-- ---- looks by keys

abbrev pub record_numbered : Asked
record_numbered = asked (codes "SELECT number, message, path, day, destroyed FROM record WHERE number = ?1") key_test record_columns record_names []

pub asks_record : (schema : Schema) (is : Stands schema record_table) → AsksFor schema record_numbered is.tree
unfolding everything
asks_record schema is = asks schema record_table is record_numbered record_keys (refl, refl) refl
    (refl, refl, refl, (tt, tt), ((0, refl, is.named), tt), (tt, tt), (tt, (tt, (tt, (tt, (tt, tt))))), (tt, tt, tt), refl, refl, tt, refl)

abbrev pub body_numbered : Asked
body_numbered = asked (codes "SELECT body FROM message WHERE number = ?1") key_test (col 1 2 ∷ []) (codes "body" ∷ []) []

pub asks_body : (schema : Schema) (is : Stands schema message_table) → AsksFor schema body_numbered is.tree
unfolding everything
asks_body schema is = asks schema message_table is body_numbered (Some Binary ∷ []) (refl, refl) refl
    (refl, refl, refl, (tt, tt), ((0, refl, is.named), tt), (tt, tt), (tt, tt), (tt, tt, tt), refl, refl, tt, refl)

abbrev pub hold_named : Asked
hold_named = asked (codes "SELECT record FROM hold WHERE name = ?1 AND record = ?2") hold_test (col 1 2 ∷ []) (codes "record" ∷ []) []

pub asks_hold : (schema : Schema) (is : Stands schema hold_table) → AsksFor schema hold_named is.tree
unfolding everything
asks_hold schema is = asks schema hold_table is hold_named (Some Binary ∷ []) (refl, refl) refl
    (refl, refl, refl, (tt, tt), ((0, refl, is.named), tt), (tt, tt), (tt, tt), (tt, (tt, tt, tt), (tt, tt, tt)), refl, refl, tt, refl)
