-- Captures in flight, and the FINISH that makes the records of one.
use Rattle.std.specs.Prelude.{◌≡◌, ℕ, List, Option, Some, None}
use Rattle.sieve_meaning.specs.declared.run_fault.RunFault.{RunFault}
use Rattle.record_archive.specs.Archive.{Line}
use Rattle.desk_commands.specs.Answers.{captured}
use Rattle.desk_commands.specs.Standing.{Flight, Standing, Step, finish, flight_of}

-- this capture is in flight under the ticket
abbrev pub IsInFlight : Standing → (ticket : ℕ) → Flight → Type 0
IsInFlight s t f = flight_of t s.flights ≡ Some f

-- no capture is in flight under the ticket
abbrev pub NoneInFlight : Standing → (ticket : ℕ) → Type 0
NoneInFlight s t = flight_of t s.flights ≡ None

-- A FINISH of the ticket, in a state, that makes the records of a capture: the fault and the lines that it answers, and
-- the state that it leaves.
pub record FinishOf (s : Standing) (t : ℕ) : Type 0 where
  pub fault : Option RunFault
  pub lines : List Line
  pub new : Standing
  pub step : Step s (finish t) (captured fault lines) new
