use Rattle.std.proofs.Common.{subst}
use Rattle.desk_flights.specs.FlightViews.{FlightView, TellsTurns}
use Rattle.desk_flights.proofs.HeldLemmas.{tells_turns}
use Rattle.desk_flights.proofs.flight.Flight.turns_made.Goals as goal

pub returns : goal.returns
returns c =
    let at = c.self.inside in
    let x : FlightView = record {
      ticket = at.ticket;
      program = at.program.value;
      message = at.message.items;
      case =
          at.case;
      day = at.day;
      machine = at.machine;
    } in
    let P : FlightView → Type 0 = λ y. TellsTurns y (record { steps = c.steps_done.result; ended = c.is_ended.result }) in
    subst P c.self.view_is (rw (c.steps_done.ensures, c.is_ended.ensures) (tells_turns x c.self.invariant.0))
