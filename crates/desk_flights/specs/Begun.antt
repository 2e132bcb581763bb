-- How a capture begins.
use Rattle.std.specs.Prelude.{◌≡◌, ℕ, pos, List}
use Rattle.jiff.specs.Words.{epoch_day}
use Rattle.jiff_core.specs.declared.civil.date.Date.{Date}
use Rattle.filing_image.specs.Program.{Program}
use Rattle.mail_case.specs.Message.{is_among}
use Rattle.desk_commands.specs.Standing.{Flight, IsPinned}
use Rattle.desk_flights.specs.FlightViews.{FlightView, Holds}

-- a flight of a ticket, a program, a message, open paths and a day, which was granted no turns
pub record IsBegun (number : ℕ) (p : Program) (octets : List ℕ) (opened : List (List ℕ)) (on : Date)
    (f : Flight) : Type 0 where
  pub ticket : f.ticket ≡ number
  pub program : f.pinned ≡ p
  pub pinned : IsPinned f
  pub message : f.at_begin.message ≡ octets
  pub paths : f.at_begin.is_open ≡ is_among opened
  pub day : epoch_day on ≡ pos f.at_begin.day
  pub fresh : f.granted ≡ 0

-- the capture holds each such flight
abbrev pub HoldsBegun : (ticket : ℕ) → Program → (message : List ℕ) → (paths : List (List ℕ)) → Date → FlightView → Type 0
HoldsBegun ticket p message paths day x = (f : Flight) → IsBegun ticket p message paths day f → Holds x f
