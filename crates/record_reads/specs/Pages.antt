-- The records of a page, and the holds on them.
use Rattle.std.specs.Prelude.{ℕ, pos, ◌&&◌, Bool, List, filter, int_le}
use Rattle.record_items.specs.Items.{Record}
use Rattle.record_tables.specs.Rows.{Tables}
use Rattle.record_tables.specs.Reads.{HoldEntry}

-- the record's number is not below this one
abbrev pub is_from : ℕ → Record → Bool
is_from n r = int_le (pos n) (pos r.number)

-- the records from a number on, in the order of their numbers
abbrev pub records_from : ℕ → Tables → List Record
records_from n t = filter (is_from n) t.records

-- the number of the hold's record is not below the first of these and not above the last
abbrev pub is_between : ℕ → ℕ → HoldEntry → Bool
is_between first last h = int_le (pos first) (pos h.number) && int_le (pos h.number) (pos last)
