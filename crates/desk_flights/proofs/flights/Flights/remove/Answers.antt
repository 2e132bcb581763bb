use Rattle.std.proofs.Common.{◌≡◌, List, Some, None, ap, arith, sym, subst, ◌∙◌}
use Rattle.std.specs.Prelude.{position, ◌==◌}
use Rattle.std.proofs.lemmas.Grind.{common_steps}
use Rattle.desk_flights.specs.FlightViews.{FlightView}
use Rattle.desk_flights.specs.Flights.{Removes}
use Rattle.desk_flights.proofs.FlightsLemmas.{removes_none, removes_some}
use Rattle.desk_flights.proofs.flights.Flights.remove.Goals as goal

pub returns-in_default : goal.returns-in_default
returns-in_default c =
    let xs = c.self.inside.flights.items in
    let P : List FlightView → Type 0 = λ ys. Removes ys c.args.ticket ys in
    let at : position (λ x. x.ticket == c.args.ticket) xs ≡ None = grind (arith, common_steps) in
    subst P c.self.view_is (removes_none c.args.ticket xs at)

pub returns : goal.returns
returns c =
    let xs = c.self.inside.flights.items in
    let at : position (λ x. x.ticket == c.args.ticket) xs ≡ Some c.in-Some.at =
    ap (position (λ x. x.ticket == c.args.ticket)) (sym c.deref.ensures.value) ∙ sym c.place_of.ensures
    ∙ c.in-Some.is in
    let P : List FlightView → Type 0 = λ ys. Removes ys c.args.ticket c.remove-removed.new.self.items in
    let Q : List FlightView → Type 0 = λ ys. Removes xs c.args.ticket ys in
    subst P c.self.view_is (subst Q (sym c.remove-removed.ensures.items) (removes_some c.args.ticket c.in-Some.at xs c.remove-removed.result at))
