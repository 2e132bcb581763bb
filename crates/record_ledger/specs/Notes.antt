-- What the line of an event tells.
use Rattle.std.specs.Prelude.{◌≡◌, ℕ, List, []}
use Rattle.std.specs.Option.{unwrap_or}
use Rattle.jiff.specs.Words.{epoch_day}
use Rattle.jiff_core.specs.declared.civil.date.Date.{Date}
use Rattle.record_archive.specs.Archive.{Record, from_1970}
use Rattle.record_choice.specs.declared.entry.RecordEntry.{RecordEntry}
use Rattle.record_history.specs.Events.{Deed, Event}
use Rattle.record_history.specs.Lines.{line_of}
use Rattle.record_history.specs.Spelled.{IsSpelled}
use Rattle.record_ledger.specs.declared.occasion.Occasion.{Occasion}

-- the number of a day from 1970-01-01 on, and 0 for a day before it
abbrev pub number_since_1970 : Date → ℕ
number_since_1970 day = unwrap_or (from_1970 (epoch_day day)) 0

-- a record as it is found
abbrev pub found_record : RecordEntry → Record
found_record e = record { number = e.number; message = e.message; path = e.path.items; day = number_since_1970 e.day; destroyed = e.destroyed }

-- THE LINE TELLS OF THE DEED under a number: by whom it is done, for what reason, and what more is noted, on this occasion. The
-- line can be read again.
pub record TellsOf {K : Type 0} (occasion : Occasion K) (number : ℕ) (deed : Deed) (line : List ℕ) : Type 0 where
  pub event : Event
  pub line_is : line ≡ line_of number event
  pub who : event.who ≡ occasion.who.now
  pub deed_is : event.deed ≡ deed
  pub notes : event.notes ≡ occasion.notes.now
  pub reason : event.reason ≡ occasion.reason.now
  pub spelled : IsSpelled event
