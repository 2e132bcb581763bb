use Rattle.desk_flights.proofs.FlightsLemmas.{as_many}
use Rattle.desk_flights.proofs.PlanLemmas.{are_classes, open_has}
use Rattle.desk_flights.proofs.laws.captures_hold_flights.Goals as goal

pub returns : goal.returns
returns c = record { count = as_many; open_paths = open_has; classes = are_classes }
