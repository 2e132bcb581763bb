use Rattle.std.proofs.Common.{◌≡◌, List, Ok, Some, None, ap, arith, set, sym, subst, ◌∙◌}
use Rattle.std.specs.Prelude.{position, ◌==◌}
use Rattle.std.proofs.lemmas.Grind.{common_steps}
use Rattle.desk_commands.specs.Answers.{refused}
use Rattle.desk_commands.specs.CallAnswers.{answer_of_turn}
use Rattle.desk_flights.specs.FlightViews.{FlightView, IsGranted, StopsShort}
use Rattle.desk_flights.specs.Flights.{Turns}
use Rattle.desk_flights.proofs.FlightsLemmas.{turn_none, turn_made, turn_stopped}
use Rattle.desk_flights.proofs.flights.Flights.turn.Goals as goal

pub returns-in_default : goal.returns-in_default
returns-in_default c =
    let xs = c.self.inside.flights.items in
    let P : List FlightView → Type 0 = λ ys. Turns ys c.args.ticket c.args.count (refused 91 None) ys in
    let at : position (λ x. x.ticket == c.args.ticket) xs ≡ None = grind (arith, common_steps) in
    subst P c.self.view_is (turn_none c.args.ticket c.args.count xs at)

pub returns-in_default-turn : goal.returns-in_default-turn
returns-in_default-turn c =
    let xs = c.self.inside.flights.items in
    let y = c.turn.new.self in
    let P : List FlightView → Type 0 = λ ys. Turns ys c.args.ticket c.args.count (refused 99 None) (set xs c.in-Some.at y) in
    let at : position (λ x. x.ticket == c.args.ticket) xs ≡ Some c.in-Some.at =
    ap (position (λ x. x.ticket == c.args.ticket)) (sym c.deref.ensures.value) ∙ sym c.place_of.ensures
    ∙ c.in-Some.is in
    let S : FlightView → Type 0 = λ x. StopsShort x c.args.count y in
    subst P c.self.view_is (turn_stopped c.args.ticket c.args.count c.in-Some.at xs c.index_mut-flight.result.now y at
    (subst S c.index_mut-flight.ensures.value c.in_default-turn.ensures.err))

pub returns : goal.returns
returns c =
    let xs = c.self.inside.flights.items in
    let y = c.turn.new.self in
    let P : List FlightView → Type 0 = λ ys. Turns ys c.args.ticket c.args.count (answer_of_turn (Ok c.turns_made.result)) (set xs c.in-Some.at y) in
    let at : position (λ x. x.ticket == c.args.ticket) xs ≡ Some c.in-Some.at =
    ap (position (λ x. x.ticket == c.args.ticket)) (sym c.deref.ensures.value) ∙ sym c.place_of.ensures
    ∙ c.in-Some.is in
    let S : FlightView → Type 0 = λ x. IsGranted x c.args.count y in
    subst P c.self.view_is (turn_made c.args.ticket c.args.count c.in-Some.at xs c.index_mut-flight.result.now y
    (answer_of_turn (Ok c.turns_made.result)) at (subst S c.index_mut-flight.ensures.value c.in-Ok.ensures.ok)
    c.turns_made.ensures)
