-- Records as they are listed.
use Rattle.std.specs.Prelude.{◌≡◌, Some, ℕ, ◌==◌, nat_le, ℤ, pos, Bool, if◌then◌else◌, List, map, filter, Option, None, option_map, Vec}
use Rattle.std.specs.declared.alloc.Global.{Global}
use Rattle.std.specs.Ordering.{nat_cmp}
use Rattle.std.specs.Cmp.Lexicographic.{slice_cmp}
use Rattle.jiff.specs.Words.{epoch_day}
use Rattle.class_plan.specs.Plans.{Listing}
use Rattle.class_plan.specs.Calendar.{due_on}
use Rattle.record_archive.specs.Lists.{sort_by}
use Rattle.record_archive.specs.Archive.{Record, Archive, Hold, record_at}
use Rattle.record_choice.specs.declared.entry.RecordEntry as code

-- a record with all that is kept of it but the message's octets: the day of its capture and its due day are counted
-- from 1970-01-01, and the names of its holds are in byte order
pub record RecordEntry : Type 0 where
  pub number : ℕ
  pub path : List ℕ
  pub day : ℤ
  pub due : Option ℤ
  pub message : ℕ
  pub destroyed : Bool
  pub holds : List (List ℕ)

-- the due day by a plan, which a destroyed record no longer has
abbrev pub due_if_live : Listing → Record → Option ℕ
due_if_live p r = if r.destroyed then None else due_on p r.path r.day

-- a record by a plan, with the names of its holds
abbrev pub listed : Listing → Record → List (List ℕ) → RecordEntry
listed p r names = record {
  number = r.number;
  path = r.path;
  day = pos r.day;
  due = option_map pos (due_if_live p r);
  message = r.message;
  destroyed = r.destroyed;
  holds = names;
}

-- the names of the holds on the record of a number, in byte order
abbrev pub hold_names : Archive → ℕ → List (List ℕ)
hold_names a n = sort_by (slice_cmp nat_cmp) (map (λ (h : Hold). h.name) (filter (λ (h : Hold). h.number == n) a.holds))

abbrev pub entry_of : Archive → Record → RecordEntry
entry_of a r = listed a.plan r (hold_names a r.number)

-- this holds of the record of a number
abbrev pub OfRecord : Archive → ℕ → (Record → Type 0) → Type 0
OfRecord a n Holds = (r : Record) × (record_at a n ≡ Some r) × Holds r

-- the records whose numbers are not below one, in their order
abbrev pub records_from : Archive → ℕ → List Record
records_from a n = filter (λ (r : Record). nat_le n r.number) a.records

-- THE LIST OF RECORDS from a number on, in the order of their numbers
abbrev pub entries_from : Archive → ℕ → List RecordEntry
entries_from a n = map (entry_of a) (records_from a n)

-- the octets of each name
abbrev pub name_list : List (Vec ℕ Global) → List (List ℕ)
name_list names = map (λ n. n.items) names

-- an entry of the code as a plain one
abbrev pub entry_view : code.RecordEntry → RecordEntry
entry_view e = record {
  number = e.number;
  path = e.path.items;
  day = epoch_day e.day;
  due = option_map epoch_day e.due;
  message = e.message;
  destroyed = e.destroyed;
  holds = name_list e.holds.items;
}
