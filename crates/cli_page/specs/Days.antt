-- The day on which a record falls due, as a report counts it.
use Rattle.std.specs.Prelude.{◌≡◌, pos, ◌<ℤ◌, Option, Some, None}
use Rattle.jiff_core.specs.Date.{epoch_day}
use Rattle.jiff_core.specs.declared.civil.date.Date.{Date}
use Rattle.cli_page.specs.declared.dates.DueDay.{DueDay}

-- the date's day, counted from 1970-01-01, and its year; none for a date before that day
abbrev pub IsDueDay : Date → Option DueDay → Type 0
IsDueDay date None = epoch_day date <ℤ pos 0
IsDueDay date (Some due) = (epoch_day date ≡ pos due.day) × (date.year ≡ pos due.year)
