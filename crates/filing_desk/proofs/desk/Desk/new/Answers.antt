use Rattle.std.proofs.Common.{List, [], refl, subst, sym}
use Rattle.desk_flights.specs.Flights.{AreHeld}
use Rattle.desk_flights.specs.FlightViews.{FlightView}
use Rattle.filing_desk.proofs.desk.Desk.new.Goals as goal

pub returns-clause-opens : goal.returns-clause-opens
returns-clause-opens g c = λ a stands.
    let P : List FlightView → Type 0 = λ xs. AreHeld xs [] in
    record { store = stands; officers = c.new.ensures a; flights = subst P (sym c.new-2.ensures) tt; last = refl; open_paths = tt; classes = tt }
