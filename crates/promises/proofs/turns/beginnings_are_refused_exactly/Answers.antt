use Rattle.promises.proofs.InFlight.{most_flights, most_tickets, tickets_in_order}
use Rattle.promises.proofs.Refusals.{tickets_used_up, too_many_in_flight}
use Rattle.promises.proofs.turns.beginnings_are_refused_exactly.Goals as goal

pub returns-clause-tickets : goal.returns-clause-tickets
returns-clause-tickets c = λ a x. tickets_in_order a x.commands x.answers x.new x.run

pub returns-clause-in_flight : goal.returns-clause-in_flight
returns-clause-in_flight c = λ s x reached. too_many_in_flight s x.officer x.moment x.message x.answer x.new (most_flights s reached) x.step

pub returns-clause-used_up : goal.returns-clause-used_up
returns-clause-used_up c = λ s x reached. tickets_used_up s x.officer x.moment x.message x.answer x.new (most_tickets s reached) x.step
