use Rattle.promises.proofs.Refusals.{no_ticket_to_finish, no_ticket_to_turn}
use Rattle.promises.proofs.Unchanged.{given_up, not_given}
use Rattle.promises.proofs.turns.tickets_are_looked_up_exactly.Goals as goal

pub returns-clause-turn : goal.returns-clause-turn
returns-clause-turn c = no_ticket_to_turn

pub returns-clause-finish : goal.returns-clause-finish
returns-clause-finish c = no_ticket_to_finish

pub returns-clause-given_up : goal.returns-clause-given_up
returns-clause-given_up c = λ s t x reached. given_up s t x.fault x.lines x.new reached x.step

pub returns-clause-not_given : goal.returns-clause-not_given
returns-clause-not_given c = not_given
