-- A due date as it is counted.
use Rattle.std.proofs.Common.{◌≡◌, pos, refl}
use Rattle.jiff.specs.Words.{epoch_day}
use Rattle.jiff_core.specs.declared.civil.date.Date.{Date}
use Rattle.cli_page.specs.declared.dates.DueDay.{DueDay}
use Rattle.cli_page.specs.Seeing.{due_seen}

pub due_seen_is : (date : Date) (d : DueDay) → epoch_day date ≡ pos d.day → date.year ≡ pos d.year → d ≡ due_seen date
due_seen_is date d e f = rw (e, f) refl
