-- Which of the chosen records get another class, and what may be destroyed at once there.
use Rattle.std.specs.Prelude.{ℕ, Bool, not, ◌&&◌, if◌then◌else◌, List, Option}
use Rattle.std.specs.List.{list_any}
use Rattle.std.specs.Str.{bytes_eq}
use Rattle.jiff_core.specs.declared.civil.date.Date.{Date}
use Rattle.choice_words.specs.declared.numbers.TypedNumbers.{TypedNumbers}
use Rattle.class_plan.specs.declared.schedules.Schedule.{Schedule}
use Rattle.cli_choice.specs.Typed.{is_one}
use Rattle.cli_console.specs.Days.{is_by}
use Rattle.record_archive.specs.Archive.{destroys}
use Rattle.record_choice.specs.Entries.{RecordEntry}
use Rattle.cli_changes.specs.declared.refilings.Fate.{Fate}
use Rattle.cli_changes.specs.declared.refilings.Fate.TheVariants.{Moves, PassedOver, IsThere, IsDestroyed}

-- WHICH RECORDS MOVE: those that are live and in another class
abbrev pub moves : (to : List ℕ) → RecordEntry → Bool
moves to e = not e.destroyed && not (bytes_eq e.path to)

-- What is said of one that does not move and is typed by its number: that it is destroyed, or that it is there already
abbrev pub why_not : RecordEntry → Fate
why_not e = if e.destroyed then IsDestroyed else IsThere

-- WHAT BECOMES OF A RECORD: it moves; or else, where it is one of many that are chosen, it is passed over
abbrev pub fate_of : List TypedNumbers → (to : List ℕ) → RecordEntry → Fate
fate_of typed to e =
    if moves to e then Moves
    else if list_any (is_one e.number) typed then why_not e
    else PassedOver

-- A LIVE RECORD MAY BE DESTROYED by a day: it is due by then, its schedule destroys, and no hold keeps it
abbrev pub is_destroyable : (due : Option Date) → Option Schedule → (is_held : Bool) → Date → Bool
is_destroyable due schedule is_held day = is_by due day && (destroys schedule && not is_held)
