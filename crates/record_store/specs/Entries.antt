-- Records beside their holds, of which a list is made.
use Rattle.std.specs.Prelude.{◌≡◌, ◌≤◌, ℕ, ◌==◌, nat_lt, Bool, if◌then◌else◌, List, [], ◌∷◌, filter, take, drop, length}
use Rattle.std.specs.List.{list_any}
use Rattle.class_plan.specs.Plans.{Listing}
use Rattle.record_archive.specs.Archive.{Record, Archive, has_number}
use Rattle.record_tables.specs.Reads.{HoldEntry}
use Rattle.record_tables.specs.declared.rows.RecordRow.{RecordRow}
use Rattle.record_adoption.specs.Adoption.{sorted_holds}
use Rattle.record_adoption.specs.Counts.{count_at}
use Rattle.record_adoption.specs.declared.counts.Counts.{Counts}
use Rattle.record_choice.specs.Entries.{RecordEntry, listed, records_from}

-- the day of the capture is not after 2199-12-31
abbrev pub IsListableRecord : Record → Type 0
IsListableRecord r = r.day ≤ 84005

-- ---- the records of a page beside their holds

-- the records are the first of those from a number on
pub record IsPage (a : Archive) (from : ℕ) (rs : List Record) : Type 0 where
  pub most : ℕ
  pub is : rs ≡ take most (records_from a from)

-- one of the records has the hold
abbrev pub is_on_any : List Record → HoldEntry → Bool
is_on_any rs h = list_any (has_number h.number) rs

-- the holds are those on these records, by record and then by name
abbrev pub AreHoldsOf : Archive → List Record → List HoldEntry → Type 0
AreHoldsOf a rs hs = hs ≡ filter (is_on_any rs) (sorted_holds a)

-- a hold is counted for the record
abbrev pub is_counted : Counts → RecordRow → Bool
is_counted held r = nat_lt 0 (count_at held r.number)

-- the names of those holds at the front that are on the record of a number
abbrev pub names_at_front : ℕ → List HoldEntry → List (List ℕ)
names_at_front n [] = []
names_at_front n (h ∷ hs) = if h.number == n then h.name ∷ names_at_front n hs else []

-- each record with the names of those holds that come next and are on it
abbrev pub listed_beside : Listing → List HoldEntry → List Record → List RecordEntry
listed_beside p hs [] = []
listed_beside p hs (r ∷ rs) = listed p r (names_at_front r.number hs) ∷ listed_beside p (drop (length (names_at_front r.number hs)) hs) rs
