-- Due days, each with the class of its record.
use Rattle.std.specs.Prelude.{◌≡◌, ◌<◌, ◌^◌, ℕ, pos, Bool, List, [], ◌∷◌, map, filter, flat_map}
use Rattle.std.specs.List.{AllByRecursion}
use Rattle.std.specs.Ordering.{int_eq}
use Rattle.sqlite.specs.declared.types.Value.TheVariants.{Int, Text as Words}
use Rattle.sqlite.specs.Order.{Row, column}
use Rattle.record_items.specs.Items.{Record}
use Rattle.record_tables.specs.Rows.{Tables, Due}
use Rattle.record_tables.specs.Reads.{dues_by}
use Rattle.record_tables.specs.declared.rows.DueRecordRow.{DueRecordRow}

-- a record that has a due day: its number, that day and the path of its class
pub record DueRecord : Type 0 where
  pub number : ℕ
  pub day : ℕ
  pub path : List ℕ

abbrev pub due_record : Due → Record → DueRecord
due_record d r = record { number = d.number; day = d.day; path = r.path }

abbrev pub is_of : Due → Record → Bool
is_of d r = int_eq (pos r.number) (pos d.number)

-- due days, each with the path of the record that has its number; one without a record is left out
abbrev pub with_records : List Record → List Due → List DueRecord
with_records rs = flat_map (λ d. map (due_record d) (filter (is_of d) rs))

-- the records that are due by a day, by their due days and then by number
abbrev pub due_records_by : ℕ → Tables → List DueRecord
due_records_by day t = with_records t.records (dues_by day t)

abbrev pub due_record_values : DueRecord → Row
due_record_values d = Int (pos d.number) ∷ Int (pos d.day) ∷ Words d.path ∷ []

-- the columns of the row are the due record's
pub record ReadsDueRecord (row : Row) (d : DueRecord) : Type 0 where
  pub number : column row 0 ≡ Int (pos d.number)
  pub day : column row 1 ≡ Int (pos d.day)
  pub path : column row 2 ≡ Words d.path

-- the numbers fit in 32 bits
pub record FitsDueRecord (d : DueRecord) : Type 0 where
  pub number : d.number < 2 ^ 32
  pub day : d.day < 2 ^ 32

-- the numbers of the records that are due by a day fit in 32 bits
abbrev pub FitsDueRecordsBy : ℕ → Tables → Type 0
FitsDueRecordsBy day t = AllByRecursion FitsDueRecord (due_records_by day t)

-- a row of the code as a plain one
abbrev pub due_record_of : DueRecordRow → DueRecord
due_record_of d = record { number = d.«record»; day = d.day; path = d.path.items }
