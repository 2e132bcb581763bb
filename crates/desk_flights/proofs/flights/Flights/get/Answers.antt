use Rattle.std.proofs.Common.{◌≡◌, List, Some, None, ap, arith, sym, subst, ◌∙◌}
use Rattle.std.specs.Prelude.{position, ◌==◌}
use Rattle.std.proofs.lemmas.Grind.{common_steps}
use Rattle.desk_flights.specs.FlightViews.{FlightView}
use Rattle.desk_flights.specs.Flights.{Finds}
use Rattle.desk_flights.proofs.FlightsLemmas.{finds_none, finds_some}
use Rattle.desk_flights.proofs.flights.Flights.get.Goals as goal

pub returns-in_default : goal.returns-in_default
returns-in_default c =
    let xs = c.self.inside.flights.items in
    let P : List FlightView → Type 0 = λ ys. Finds ys c.args.ticket None in
    let at : position (λ x. x.ticket == c.args.ticket) xs ≡ None = grind (arith, common_steps) in
    subst P c.self.view_is (finds_none c.args.ticket xs at)

pub returns : goal.returns
returns c =
    let xs = c.self.inside.flights.items in
    let at : position (λ x. x.ticket == c.args.ticket) xs ≡ Some c.in-Some.at =
    ap (position (λ x. x.ticket == c.args.ticket)) (sym c.deref.ensures.value) ∙ sym c.place_of.ensures
    ∙ c.in-Some.is in
    let P : List FlightView → Type 0 = λ ys. Finds ys c.args.ticket (Some c.index.result.now) in
    subst P c.self.view_is (finds_some c.args.ticket xs c.in-Some.at c.index.result.now at c.index.ensures)
