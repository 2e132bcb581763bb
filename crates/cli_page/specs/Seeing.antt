-- What a report has of a record.
use Rattle.std.specs.Prelude.{◌≡◌, ℕ, Bool, not, ◌==◌, if◌then◌else◌, List, [], ◌∷◌, ◌++◌, map}
use Rattle.std.specs.Prelude.{length, Option, Some, None, is_some, option_map, ◌&&◌, nat_abs}
use Rattle.jiff.specs.Words.{epoch_day}
use Rattle.jiff_core.specs.declared.civil.date.Date.{Date}
use Rattle.class_plan.specs.Plans.{Listing}
use Rattle.cli_page.specs.declared.counts.Seen.{Seen}
use Rattle.cli_page.specs.declared.dates.DueDay.{DueDay}
use Rattle.cli_page.specs.declared.report.Record.{Record}
use Rattle.cli_page.specs.declared.report.Report.{Report}
use Rattle.cli_page.specs.Counting.{is_due, is_by}
use Rattle.cli_page.specs.DueLists.{DueRecord, due_record, due_view}
use Rattle.cli_page.specs.KeptNumbers.{KeepAlso}
use Rattle.cli_page.specs.Tallies.{CountsOne}

-- a date from 1970-01-01 on, by its day, counted from that day, and its year
abbrev pub due_seen : Date → DueDay
due_seen date = record { day = nat_abs (epoch_day date); year = nat_abs date.year }

-- what is counted of a record
abbrev pub seen_for : Record → Seen
seen_for r = record { is_destroyed = r.is_destroyed; is_held = not (length r.holds.now == 0); due = option_map due_seen r.due }

-- a record that is due is listed, by the plan
abbrev pub listed_if : (is_due : Bool) → Listing → Record → Option Date → List DueRecord
listed_if is_due plan r None = []
listed_if is_due plan r (Some due) = if is_due then due_record plan r due ∷ [] else []

-- A RECORD IS ADDED: it is counted once, is listed where it is live and due by the day, and is one more of those that each of
-- its holds keeps
pub record AddsRecord (plan : Listing) (r : Record) (old new : Report) : Type 0 where
  pub counted : CountsOne r.path.now (seen_for r) old.tally new.tally
  pub listed : map due_view new.due.items.items ≡ map due_view old.due.items.items ++ listed_if (is_due old.day_number (seen_for r)) plan r r.due
  pub held : KeepAlso (map (λ h. h.items) r.holds.now) (r.volume, r.number) old.holds.holds.entries new.holds.holds.entries
  pub day : new.day_number ≡ old.day_number

-- ---- by numbers alone, for those who add records

-- the day by which records are due, counted from 1970-01-01
abbrev pub report_day : Report → ℕ
report_day r = r.day_number

-- the numbers of the records that are listed as due
abbrev pub listed_numbers : Report → List ℕ
listed_numbers r = map (λ (d : DueRecord). d.number) (map due_view r.due.items.items)

-- a record is live and due by a day
abbrev pub is_listed : (day : ℕ) → (is_destroyed : Bool) → (due : Option Date) → Bool
is_listed day is_destroyed due = (not is_destroyed && is_by day (option_map due_seen due)) && is_some due

abbrev pub number_if : Bool → ℕ → List ℕ
number_if is_so n = if is_so then n ∷ [] else []
