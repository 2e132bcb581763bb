-- Why a record is passed over.
use Rattle.std.proofs.Common.{◌≡◌, Option, Some, None, option_map, refl}
use Rattle.jiff.specs.Words.{epoch_day}
use Rattle.jiff_core.specs.declared.civil.date.Date.{Date}
use Rattle.cli_console.specs.Days.{is_by}
use Rattle.record_choice.specs.Views.{shows_due}

-- the due day that an entry shows
pub due_shown : (due : Option Date) (day : Date) → shows_due (option_map epoch_day due) (epoch_day day) ≡ is_by due day
due_shown None day = refl
due_shown (Some d) day = refl
