use Rattle.std.proofs.Common.{◌++◌, ◌∷◌, [], List, sym, subst}
use Rattle.desk_flights.specs.FlightViews.{FlightView}
use Rattle.desk_flights.specs.Flights.{AreHeld}
use Rattle.desk_flights.proofs.FlightsLemmas.{adds}
use Rattle.desk_flights.proofs.flights.Flights.push.Goals as goal

pub returns-clause-ok : goal.returns-clause-ok
returns-clause-ok c = λ fs f a h.
    let P : List FlightView → Type 0 = λ xs. AreHeld xs fs in
    let Q : List FlightView → Type 0 = λ xs. AreHeld xs (fs ++ f ∷ []) in
    subst Q (sym c.in_ok-push.ensures.items) (adds c.self.inside.flights.items c.args.flight fs f (subst P (sym c.self.view_is) a) h)
