-- The tables stand in the schemas that this crate creates, also beside others after them.
use Rattle.std.proofs.Common.{◌≡◌, Some, codes, inl, inr, refl, ap, sym, ◌∙◌, arith, slice_get, unwrap_or, option_map}
use Rattle.sqlite.specs.Table.{Table}
use Rattle.sqlite.specs.Schema.{Schema}
use Rattle.sqlite_tied.specs.Compute.{everything}
use Rattle.sqlite_schema.specs.Names.{table_named}
use Rattle.record_tables.specs.Tables.{Foreign, none, first_dues, HasNoReferences, common_beside, archive_beside, Stands}
use Rattle.record_tables.specs.Tables.{HasCommonTables, IsArchiveSchema, IsFirstSchema, IsFree, in_tree, schedules_and_dues_beside}
use Rattle.record_tables.specs.Tables.{no_schema, first_schema, first_schema_with_dues}

pub message_named : (f : Foreign) → table_named (common_beside f) (codes "message") ≡ Some 0
unfolding everything
message_named f = refl

pub record_named : (f : Foreign) → table_named (common_beside f) (codes "record") ≡ Some 1
unfolding everything
record_named f = refl

pub hold_named : (f : Foreign) → table_named (common_beside f) (codes "hold") ≡ Some 2
unfolding everything
hold_named f = refl

pub meta_named : (f : Foreign) → table_named (common_beside f) (codes "meta") ≡ Some 3
unfolding everything
meta_named f = refl

pub class_named : (f : Foreign) → table_named (common_beside f) (codes "class") ≡ Some 4
unfolding everything
class_named f = refl

pub schedule_named : (f : Foreign) → table_named (archive_beside f) (codes "schedule") ≡ Some 5
unfolding everything
schedule_named f = refl

pub due_day_named : (f : Foreign) → table_named (archive_beside f) (codes "due_day") ≡ Some 6
unfolding everything
due_day_named f = refl

-- the five tables of both versions before any others
abbrev pub common_is : (f : Foreign) → HasCommonTables (common_beside f)
common_is f = record {
  messages = record { place = 0; tree = 0; named = message_named f; listed = refl; own = refl; small = omega arith };
  records = record { place = 1; tree = 1; named = record_named f; listed = refl; own = refl; small = omega arith };
  holds = record { place = 2; tree = 2; named = hold_named f; listed = refl; own = refl; small = omega arith };
  settings = record { place = 3; tree = 4; named = meta_named f; listed = refl; own = refl; small = omega arith };
  classes = record { place = 4; tree = 6; named = class_named f; listed = refl; own = refl; small = omega arith };
}

-- the tables of version 2 before any others
abbrev pub archive_is : (f : Foreign) → HasNoReferences f → IsArchiveSchema (archive_beside f)
archive_is f apart = record {
  common = common_is (schedules_and_dues_beside f);
  schedules = record { place = 5; tree = 8; named = schedule_named f; listed = refl; own = refl; small = omega arith };
  dues = record { place = 6; tree = 10; named = due_day_named f; listed = refl; own = refl; small = omega arith };
  apart = (refl, (refl, (refl, (refl, (refl, (refl, (refl, apart)))))));
}

-- a table stands in one place, and has its rows in one tree
pub one_tree : (schema other : Schema) (t : Table) → schema ≡ other → (a : Stands schema t) (b : Stands other t) → a.tree ≡ b.tree
one_tree schema other t e a b =
    let places : a.place ≡ b.place = ap (λ o. unwrap_or o 0) (sym a.named ∙ ap (λ s. table_named s t.name) e ∙ b.named) in
    let one : Some (in_tree a.tree t) ≡ Some (in_tree b.tree t) =
    sym a.listed ∙ ap (slice_get schema.tables) places ∙ ap (λ (s : Schema). slice_get s.tables b.place) e ∙ b.listed in
    ap (λ o. unwrap_or (option_map (λ (x : Table). x.tree) o) 0) one

-- a database without tables is free for an archive's
pub nothing_is_free : IsFree no_schema
nothing_is_free = record {
  none = record { messages = refl; records = refl; holds = refl; settings = refl; classes = refl; schedules = refl; dues = refl };
  apart = tt;
}

-- the tables of version 1 as they were created
pub first_is : IsFirstSchema first_schema
unfolding everything
first_is = record {
  common = common_is none;
  unscheduled = refl;
  dues = inl refl;
  apart = (refl, (refl, (refl, (refl, (refl, tt)))));
}

pub dated_is : IsFirstSchema first_schema_with_dues
unfolding everything
dated_is = record {
  common = common_is first_dues;
  unscheduled = refl;
  dues = inr (record { place = 5; tree = 8; named = refl; listed = refl; own = refl; small = omega arith });
  apart = (refl, (refl, (refl, (refl, (refl, (refl, tt))))));
}
