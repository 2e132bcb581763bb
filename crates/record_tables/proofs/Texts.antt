-- The meaning of each SQL text under any schema that has the tables.
use Rattle.std.proofs.Common.{ℕ, pos, negsuc, List, [], ◌∷◌, codes, false, None, refl}
use Rattle.sqlite.specs.declared.types.Value.TheVariants.{Null, Int}
use Rattle.sqlite.specs.Schema.{Schema}
use Rattle.sqlite.specs.Term.{Term, lit, col, op2}
use Rattle.sqlite.specs.Query.{Query, inner, end}
use Rattle.sqlite.specs.Source.TheVariants.{Values}
use Rattle.sqlite.specs.Command.TheVariants.{Insert, Update, Delete}
use Rattle.sqlite.specs.Collation.TheVariants.{Binary}
use Rattle.sqlite_sql.specs.declared.ops.BinaryOp.TheVariants.{Compare}
use Rattle.sqlite_sql.specs.declared.ops.CompareOp.TheVariants.{Eq}
use Rattle.sqlite_schema.specs.declared.program.Program.{Program}
use Rattle.sqlite_tied.specs.Compute.{everything}
use Rattle.sqlite.specs.Listing.{understood}
use Rattle.record_tables.specs.Tables.{IsArchiveSchema, message_table, record_table, hold_table, meta_table}
use Rattle.record_tables.specs.Tables.{class_table, schedule_table, due_table}
use Rattle.record_tables.proofs.Compiling.{Means, draft_of, means_insert, means_delete, means_update}

-- a query on one table
abbrev pub on_table : ℕ → List Term → List Term → Query
on_table tree tests columns = record {
  from = inner tree end;
  filter = tests;
  group = None;
  project = columns;
  distinct = false;
  collations = [];
  order = [];
  limit = lit (Int (negsuc 0));
  offset = lit (Int (pos 0));
}

abbrev pub alone : Query → Program
alone q = record { lets = []; body = q }

abbrev pub insert_message : List ℕ
insert_message = codes "INSERT INTO message (number, body) VALUES (?1, ?2)"

abbrev pub insert_record : List ℕ
insert_record = codes "INSERT INTO record (number, message, path, day, destroyed) VALUES (?1, ?2, ?3, ?4, 0)"

abbrev pub insert_hold : List ℕ
insert_hold = codes "INSERT INTO hold (name, record) VALUES (?1, ?2)"

abbrev pub insert_setting : List ℕ
insert_setting = codes "INSERT INTO meta (key, value) VALUES (?1, ?2)"

abbrev pub insert_class : List ℕ
insert_class = codes "INSERT INTO class (path, is_open, schedule) VALUES (?1, ?2, ?3)"

abbrev pub insert_schedule : List ℕ
insert_schedule = codes "INSERT INTO schedule (path, count, unit, action, year_end) VALUES (?1, ?2, ?3, ?4, ?5)"

abbrev pub insert_due : List ℕ
insert_due = codes "INSERT INTO due_day (record, day) VALUES (?1, ?2)"

abbrev pub message_terms : List Term
message_terms = col 0 0 ∷ lit Null ∷ col 0 1 ∷ []

abbrev pub record_terms : List Term
record_terms = col 0 0 ∷ lit Null ∷ col 0 1 ∷ col 0 2 ∷ col 0 3 ∷ lit (Int (pos 0)) ∷ []

abbrev pub two_terms : List Term
two_terms = lit Null ∷ col 0 0 ∷ col 0 1 ∷ []

abbrev pub three_terms : List Term
three_terms = lit Null ∷ col 0 0 ∷ col 0 1 ∷ col 0 2 ∷ []

abbrev pub five_terms : List Term
five_terms = lit Null ∷ col 0 0 ∷ col 0 1 ∷ col 0 2 ∷ col 0 3 ∷ col 0 4 ∷ []

pub insert_message_is : (schema : Schema) (has : IsArchiveSchema schema)
    → Means schema insert_message (Insert has.common.messages.place (Values message_terms 3))
unfolding understood everything
insert_message_is schema has =
    means_insert schema message_table has.common.messages insert_message (Values message_terms 3) (refl, refl) refl (refl, refl, refl, refl, refl)

pub insert_record_is : (schema : Schema) (has : IsArchiveSchema schema)
    → Means schema insert_record (Insert has.common.records.place (Values record_terms 6))
unfolding understood everything
insert_record_is schema has =
    means_insert schema record_table has.common.records insert_record (Values record_terms 6) (refl, refl) refl (refl, refl, refl, refl, refl)

pub insert_hold_is : (schema : Schema) (has : IsArchiveSchema schema)
    → Means schema insert_hold (Insert has.common.holds.place (Values two_terms 3))
unfolding understood everything
insert_hold_is schema has =
    means_insert schema hold_table has.common.holds insert_hold (Values two_terms 3) (refl, refl) refl (refl, refl, refl, refl, refl)

pub insert_setting_is : (schema : Schema) (has : IsArchiveSchema schema)
    → Means schema insert_setting (Insert has.common.settings.place (Values two_terms 3))
unfolding understood everything
insert_setting_is schema has =
    means_insert schema meta_table has.common.settings insert_setting (Values two_terms 3) (refl, refl) refl (refl, refl, refl, refl, refl)

pub insert_class_is : (schema : Schema) (has : IsArchiveSchema schema)
    → Means schema insert_class (Insert has.common.classes.place (Values three_terms 4))
unfolding understood everything
insert_class_is schema has =
    means_insert schema class_table has.common.classes insert_class (Values three_terms 4) (refl, refl) refl (refl, refl, refl, refl, refl)

pub insert_schedule_is : (schema : Schema) (has : IsArchiveSchema schema)
    → Means schema insert_schedule (Insert has.schedules.place (Values five_terms 6))
unfolding understood everything
insert_schedule_is schema has =
    means_insert schema schedule_table has.schedules insert_schedule (Values five_terms 6) (refl, refl) refl (refl, refl, refl, refl, refl)

pub insert_due_is : (schema : Schema) (has : IsArchiveSchema schema)
    → Means schema insert_due (Insert has.dues.place (Values message_terms 3))
unfolding understood everything
insert_due_is schema has =
    means_insert schema due_table has.dues insert_due (Values message_terms 3) (refl, refl) refl (refl, refl, refl, refl, refl)

-- ---- deletes

abbrev pub clear_dues : List ℕ
clear_dues = codes "DELETE FROM due_day"

abbrev pub clear_classes : List ℕ
clear_classes = codes "DELETE FROM class"

abbrev pub clear_schedules : List ℕ
clear_schedules = codes "DELETE FROM schedule"

abbrev pub clear_settings : List ℕ
clear_settings = codes "DELETE FROM meta"

abbrev pub delete_due : List ℕ
delete_due = codes "DELETE FROM due_day WHERE record = ?1"

abbrev pub delete_message : List ℕ
delete_message = codes "DELETE FROM message WHERE number = ?1"

abbrev pub delete_hold : List ℕ
delete_hold = codes "DELETE FROM hold WHERE name = ?1 AND record = ?2"

abbrev pub key_test : List Term
key_test = op2 (Compare Eq Binary) (col 1 0) (col 0 0) ∷ []

abbrev pub hold_test : List Term
hold_test = op2 (Compare Eq Binary) (col 1 1) (col 0 0) ∷ op2 (Compare Eq Binary) (col 1 2) (col 0 1) ∷ []

abbrev pub deleting : ℕ → List Term → Program
deleting tree tests = alone (on_table tree tests (col 1 0 ∷ []))

pub clear_dues_is : (schema : Schema) (has : IsArchiveSchema schema)
    → Means schema clear_dues (Delete has.dues.place (deleting has.dues.tree []))
unfolding understood everything
clear_dues_is schema has =
    means_delete schema due_table has.dues clear_dues (draft_of (inner has.dues.tree end) [] (col 1 0 ∷ []) [])
    (refl, refl) refl refl (refl, refl, tt, refl)

pub clear_classes_is : (schema : Schema) (has : IsArchiveSchema schema)
    → Means schema clear_classes (Delete has.common.classes.place (deleting has.common.classes.tree []))
unfolding understood everything
clear_classes_is schema has =
    means_delete schema class_table has.common.classes clear_classes (draft_of (inner has.common.classes.tree end) [] (col 1 0 ∷ []) [])
    (refl, refl) refl refl (refl, refl, tt, refl)

pub clear_schedules_is : (schema : Schema) (has : IsArchiveSchema schema)
    → Means schema clear_schedules (Delete has.schedules.place (deleting has.schedules.tree []))
unfolding understood everything
clear_schedules_is schema has =
    means_delete schema schedule_table has.schedules clear_schedules (draft_of (inner has.schedules.tree end) [] (col 1 0 ∷ []) [])
    (refl, refl) refl refl (refl, refl, tt, refl)

pub clear_settings_is : (schema : Schema) (has : IsArchiveSchema schema)
    → Means schema clear_settings (Delete has.common.settings.place (deleting has.common.settings.tree []))
unfolding understood everything
clear_settings_is schema has =
    means_delete schema meta_table has.common.settings clear_settings (draft_of (inner has.common.settings.tree end) [] (col 1 0 ∷ []) [])
    (refl, refl) refl refl (refl, refl, tt, refl)

pub delete_due_is : (schema : Schema) (has : IsArchiveSchema schema)
    → Means schema delete_due (Delete has.dues.place (deleting has.dues.tree key_test))
unfolding understood everything
delete_due_is schema has =
    means_delete schema due_table has.dues delete_due (draft_of (inner has.dues.tree end) key_test (col 1 0 ∷ []) [])
    (refl, refl) refl refl (refl, refl, (tt, tt, tt), refl)

pub delete_message_is : (schema : Schema) (has : IsArchiveSchema schema)
    → Means schema delete_message (Delete has.common.messages.place (deleting has.common.messages.tree key_test))
unfolding understood everything
delete_message_is schema has =
    means_delete schema message_table has.common.messages delete_message (draft_of (inner has.common.messages.tree end) key_test (col 1 0 ∷ []) [])
    (refl, refl) refl refl (refl, refl, (tt, tt, tt), refl)

pub delete_hold_is : (schema : Schema) (has : IsArchiveSchema schema)
    → Means schema delete_hold (Delete has.common.holds.place (deleting has.common.holds.tree hold_test))
unfolding understood everything
delete_hold_is schema has =
    means_delete schema hold_table has.common.holds delete_hold (draft_of (inner has.common.holds.tree end) hold_test (col 1 0 ∷ []) [])
    (refl, refl) refl refl (refl, refl, (tt, (tt, tt, tt), (tt, tt, tt)), refl)

-- ---- updates

abbrev pub set_destroyed : List ℕ
set_destroyed = codes "UPDATE record SET destroyed = 1 WHERE number = ?1"

abbrev pub destroyed_columns : List Term
destroyed_columns = col 1 0 ∷ col 1 0 ∷ lit Null ∷ col 1 2 ∷ col 1 3 ∷ col 1 4 ∷ lit (Int (pos 1)) ∷ []

pub set_destroyed_is : (schema : Schema) (has : IsArchiveSchema schema)
    → Means schema set_destroyed (Update has.common.records.place (alone (on_table has.common.records.tree key_test destroyed_columns)))
unfolding understood everything
set_destroyed_is schema has =
    means_update schema record_table has.common.records set_destroyed (draft_of (inner has.common.records.tree end) key_test destroyed_columns [])
    (refl, refl) refl refl (refl, refl, (tt, tt), (tt, tt, tt), refl)

abbrev pub set_path : List ℕ
set_path = codes "UPDATE record SET path = ?2 WHERE number = ?1"

abbrev pub path_columns : List Term
path_columns = col 1 0 ∷ col 1 0 ∷ lit Null ∷ col 1 2 ∷ col 0 1 ∷ col 1 4 ∷ col 1 5 ∷ []

pub set_path_is : (schema : Schema) (has : IsArchiveSchema schema)
    → Means schema set_path (Update has.common.records.place (alone (on_table has.common.records.tree key_test path_columns)))
unfolding understood everything
set_path_is schema has =
    means_update schema record_table has.common.records set_path (draft_of (inner has.common.records.tree end) key_test path_columns [])
    (refl, refl) refl refl (refl, refl, (tt, tt), (tt, tt, tt), refl)
