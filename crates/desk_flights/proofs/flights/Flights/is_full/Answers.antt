use Rattle.std.proofs.Common.{◌≡◌, ap, arith, length}
use Rattle.std.specs.Prelude.{nat_le}
use Rattle.std.proofs.lemmas.Grind.{common_steps}
use Rattle.desk_flights.proofs.FlightsLemmas.{as_many}
use Rattle.desk_flights.proofs.flights.Flights.is_full.Goals as goal

pub returns-clause-flights : goal.returns-clause-flights
returns-clause-flights c = λ fs a.
    let many = as_many c.args.self.now fs a in
    let all : c.len.result ≡ length fs = grind (arith, common_steps, c.len.ensures, c.self.view_is, many) in
    ap (nat_le 64) all
