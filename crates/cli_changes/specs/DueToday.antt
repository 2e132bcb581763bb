-- How many records are due at once, and may be destroyed at once.
use Rattle.std.specs.Prelude.{ℕ, ◌&&◌, ◌==◌, not, Bool, ℤ, pos}
use Rattle.std.specs.Prelude.{List, [], ◌∷◌, ◌++◌, length, codes, option_map, Option}
use Rattle.jiff_core.specs.declared.civil.date.Date.{Date}
use Rattle.class_plan.specs.Plans.{Listing, schedule_at}
use Rattle.class_plan.specs.declared.schedules.Schedule.{Schedule}
use Rattle.cli_console.specs.Counts.{counted}
use Rattle.cli_console.specs.Days.{is_by}
use Rattle.cli_texts.specs.DueDays.{due_by_plan}
use Rattle.cli_texts.specs.Words.{number, words}
use Rattle.record_archive.specs.Archive.{destroys}
use Rattle.record_choice.specs.Entries.{RecordEntry}
use Rattle.record_choice.specs.Views.{shows_due}
use Rattle.cli_changes.specs.declared.due_today.DueToday.{DueToday}
use Rattle.cli_changes.specs.Refilings.{is_destroyable}
use Rattle.cli_changes.specs.Series.{sum_of}

-- of no record
abbrev pub none_due : DueToday
none_due = record { all = 0; destroyable = 0 }

-- THE RECORDS OF TWO STORES that are due
abbrev pub due_in_both : DueToday → DueToday → DueToday
due_in_both one other = record { all = sum_of one.all other.all; destroyable = sum_of one.destroyable other.destroyable }

-- A LIVE RECORD IS DUE by a day, as if it were in the class of a path of a plan. Days are counted from 1970-01-01.
abbrev pub is_due_in : Listing → (path : List ℕ) → (today : ℤ) → RecordEntry → Bool
is_due_in plan path today e = shows_due (option_map pos (due_by_plan plan path e.day)) today

abbrev pub is_held : RecordEntry → Bool
is_held e = not (length e.holds == 0)

-- IT MAY BE DESTROYED by that day: it is due, the schedule of the class destroys, and no hold keeps it
abbrev pub may_go_in : Listing → (path : List ℕ) → (today : ℤ) → RecordEntry → Bool
may_go_in plan path today e = is_due_in plan path today e && (destroys (schedule_at plan path) && not (is_held e))

-- it is counted where it is due, and where it may be destroyed
abbrev pub with_entry : Listing → (path : List ℕ) → (today : ℤ) → RecordEntry → DueToday → DueToday
with_entry plan path today e counts = record {
  all = counted (is_due_in plan path today e) counts.all;
  destroyable = counted (may_go_in plan path today e) counts.destroyable;
}

-- the same of a record whose due date and schedule are known
abbrev pub with_record : (due : Option Date) → Option Schedule → (is_held : Bool) → (today : Date) → DueToday → DueToday
with_record due schedule is_held today counts = record {
  all = counted (is_by due today) counts.all;
  destroyable = counted (is_destroyable due schedule is_held today) counts.destroyable;
}

-- ---- as it is told

-- a count after a change and before it, in a line
unfoldable pub count_line : (what : List ℕ) → (after before : ℕ) → List ℕ
count_line what after before = words what ++ number after ++ words (codes ", before ") ++ number before ++ 10 ∷ []

-- the same behind other words
unfoldable pub compared : (what : List ℕ) → (after before : ℕ) → List ℕ
compared what after before = words what ++ number after ++ words (codes ", before ") ++ number before

-- HOW MANY ARE DUE AT ONCE, and may be destroyed at once, after a change and before it: a line each
abbrev pub due_today_lines : (before after : DueToday) → List ℕ
due_today_lines before after =
    count_line (codes "records that are due at once: ") after.all before.all
    ++ count_line (codes "records that may be destroyed at once: ") after.destroyable before.destroyable
