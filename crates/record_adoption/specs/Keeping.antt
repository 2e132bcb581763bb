-- How tables keep an archive.
use Rattle.std.specs.Prelude.{◌≡◌, ◌<◌, ◌==◌, ℕ, Bool, ◌&&◌, List, [], ◌∷◌, map, filter, is_some, unwrap_or, codes, IsPermutation}
use Rattle.std.specs.List.{AllByRecursion}
use Rattle.sqlite.specs.Effect.{Database}
use Rattle.class_plan.specs.Plans.{Listing}
use Rattle.record_archive.specs.Archive.{Record, Archive, Hold, due_of, is_live}
use Rattle.record_tables.specs.Rows.{Tables, Stores, AreKeyed, Due, Hold as HoldRow}
use Rattle.record_tables.specs.Reads.{class_entry, rule, pair}
use Rattle.record_rows.specs.Rules.{rules_of, classes_of}
use Rattle.record_adoption.specs.Counts.{tally}

abbrev pub hold_of : HoldRow → Hold
hold_of h = record { name = h.name; number = h.number }

-- a live record with a due day
abbrev pub has_due : Archive → Record → Bool
has_due a r = is_live r && is_some (due_of a r)

abbrev pub due_row : Archive → Record → Due
due_row a r = record { number = r.number; day = unwrap_or (due_of a r) 0 }

-- the due day of each live record that has one, by the plan as it is now
abbrev pub due_rows : Archive → List Due
due_rows a = map (due_row a) (filter (has_due a) a.records)

-- the tables keep the archive; nothing is said about the due days
pub record Keeps (t : Tables) (a : Archive) : Type 0 where
  pub messages : t.messages ≡ a.messages
  pub records : t.records ≡ a.records
  pub holds : map hold_of t.holds ≡ a.holds
  pub settings : map pair t.settings ≡ record { key = codes "version"; value = codes "2" } ∷ []
  pub classes : IsPermutation (map class_entry t.classes) (classes_of a.plan)
  pub schedules : IsPermutation (map rule t.schedules) (rules_of a.plan)

-- the database keeps the archive, with the due days by its plan
pub record StoresArchive (db : Database) (a : Archive) : Type 0 where
  pub tables : Tables
  pub stored : Stores db tables
  pub keyed : AreKeyed tables
  pub keeps : Keeps tables a
  pub dues : tables.dues ≡ due_rows a

-- the due days by a plan, of the records that are live and have one
abbrev pub dues_in : Listing → List Record → List Due
dues_in p rs = due_rows (record { plan = p; messages = []; records = rs; holds = [] })

-- the due days are those of records below a number
abbrev pub AreBelow : ℕ → List Due → Type 0
AreBelow n = AllByRecursion (λ (d : Due). d.number < n)

-- the number of live records of a message
abbrev pub live_count : Archive → ℕ → ℕ
live_count a m = tally (λ (r : Record). is_live r && (r.message == m)) a.records

-- the number of holds that keep a record
abbrev pub hold_count : Archive → ℕ → ℕ
hold_count a n = tally (λ (h : Hold). h.number == n) a.holds
