-- The captures in flight, and the flights that they hold.
use Rattle.std.specs.Prelude.{◌≡◌, ℕ, List, [], ◌∷◌, ◌++◌, length, Bool, nat_le, Option, Some, None}
use Rattle.desk_commands.specs.Answers.{Answer}
use Rattle.desk_commands.specs.Limits.{most_in_flight}
use Rattle.desk_commands.specs.Standing.{Standing, Flight, TurnStep, flight_of, grant, with_turns, without}
use Rattle.desk_flights.specs.FlightViews.{FlightView, Holds}

-- each capture holds the flight at its place
abbrev pub AreHeld : List FlightView → List Flight → Type 0
AreHeld [] [] = Unit {0}
AreHeld (x ∷ xs) (f ∷ fs) = Holds x f × AreHeld xs fs
AreHeld [] (f ∷ fs) = ⊥
AreHeld (x ∷ xs) [] = ⊥

-- the answer is whether the most captures are in flight
abbrev pub TellsFull : List FlightView → Bool → Type 0
TellsFull xs b = (fs : List Flight) → AreHeld xs fs → b ≡ nat_le most_in_flight (length fs)

abbrev pub IsFound : Option Flight → Option FlightView → Type 0
IsFound None None = Unit {0}
IsFound (Some f) (Some x) = Holds x f
IsFound None (Some x) = ⊥
IsFound (Some f) None = ⊥

-- the capture that is found holds the flight of the ticket
abbrev pub Finds : List FlightView → (ticket : ℕ) → Option FlightView → Type 0
Finds xs t x = (fs : List Flight) → AreHeld xs fs → IsFound (flight_of t fs) x

-- turns of a ticket have this answer, and leave captures that hold the flights after some of the turns
pub record IsTurned (s : Standing) (t count : ℕ) (a : Answer) (new : List FlightView) : Type 0 where
  pub made : ℕ
  pub step : TurnStep s t count (flight_of t s.flights) a (with_turns s t made)
  pub held : AreHeld new (grant t made s.flights)

abbrev pub Turns : (old : List FlightView) → (ticket count : ℕ) → Answer → (new : List FlightView) → Type 0
Turns old t count a new = (s : Standing) → AreHeld old s.flights → IsTurned s t count a new

-- one more capture is in flight, after the others
abbrev pub Adds : (old : List FlightView) → FlightView → (new : List FlightView) → Type 0
Adds old x new = (fs : List Flight) (f : Flight) → AreHeld old fs → Holds x f → AreHeld new (fs ++ f ∷ [])

-- the capture of the ticket is no longer in flight
abbrev pub Removes : (old : List FlightView) → (ticket : ℕ) → (new : List FlightView) → Type 0
Removes old t new = (fs : List Flight) → AreHeld old fs → AreHeld new (without t fs)
