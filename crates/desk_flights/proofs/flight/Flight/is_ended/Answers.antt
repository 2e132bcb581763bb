use Rattle.std.proofs.Common.{Bool, sym, subst}
use Rattle.desk_flights.specs.FlightViews.{FlightView, TellsEnd}
use Rattle.desk_flights.proofs.HeldLemmas.{tells_end}
use Rattle.desk_flights.proofs.flight.Flight.is_ended.Goals as goal

pub returns-clause-flight : goal.returns-clause-flight
returns-clause-flight c =
    let P : FlightView → Type 0 = λ x. TellsEnd x c.is_ended.result in
    let at = c.self.inside in
    let x : FlightView = record {
      ticket = at.ticket;
      program = at.program.value;
      message = at.message.items;
      case =
          at.case;
      day = at.day;
      machine = at.machine;
    } in
    let Q : Bool → Type 0 = TellsEnd x in
    subst P c.self.view_is (subst Q (sym c.is_ended.ensures) (tells_end x c.self.invariant.0))
