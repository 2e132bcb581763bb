-- Rows that are written to tables without rows.
use Rattle.std.specs.Prelude.{◌≡◌, ℤ, pos, ◌+ℤ◌, List, [], ◌∷◌, map}
use Rattle.sqlite_keyed.specs.Keyed.{IsKeyedBy}
use Rattle.record_archive.specs.Archive.{Message, Record}
use Rattle.record_tables.specs.Rows.{Tables, Hold, record_key}
use Rattle.record_tables.specs.Reads.{HoldEntry, hold_entry}

abbrev pub HasNoMessages : Tables → Type 0
HasNoMessages t = t.messages ≡ []

abbrev pub HasNoHolds : Tables → Type 0
HasNoHolds t = t.holds ≡ []

-- there is no record, and these come in the order of their numbers
abbrev pub IsFreshFor : List Record → Tables → Type 0
IsFreshFor rs t = (t.records ≡ []) × IsKeyedBy record_key rs

abbrev pub with_messages : List Message → Tables → Tables
with_messages ms t = record t { messages = ms }

abbrev pub with_records : List Record → Tables → Tables
with_records rs t = record t { records = rs }

-- the holds in this order, with rowids from this one on
abbrev pub holds_from : ℤ → List HoldEntry → List Hold
holds_from id [] = []
holds_from id (h ∷ hs) = record { id = id; name = h.name; number = h.number } ∷ holds_from (id +ℤ pos 1) hs

abbrev pub with_holds : List HoldEntry → Tables → Tables
with_holds hs t = record t { holds = holds_from (pos 1) hs }

pub record HasNoRows (t : Tables) : Type 0 where
  pub messages : t.messages ≡ []
  pub records : t.records ≡ []
  pub holds : t.holds ≡ []

-- the messages, records and holds of these tables, the holds with new rowids
abbrev pub with_rows_of : Tables → Tables → Tables
with_rows_of s t = record t { messages = s.messages; records = s.records; holds = holds_from (pos 1) (map hold_entry s.holds) }
