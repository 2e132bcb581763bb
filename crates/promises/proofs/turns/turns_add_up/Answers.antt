use Rattle.promises.proofs.InFlight.{enough_turns}
use Rattle.promises.proofs.Refusals.{too_early, turns_told}
use Rattle.promises.proofs.Sources.{granted_in_all}
use Rattle.promises.proofs.turns.turns_add_up.Goals as goal

pub returns-clause-sum : goal.returns-clause-sum
returns-clause-sum c = λ a x t f. granted_in_all a x.commands x.answers x.new t f x.run

pub returns-clause-told : goal.returns-clause-told
returns-clause-told c = λ s new t n a f. turns_told s t n a new f

pub returns-clause-finish : goal.returns-clause-finish
returns-clause-finish c = λ s new t a f. too_early s t a new f

pub returns-clause-enough : goal.returns-clause-enough
returns-clause-enough c = enough_turns c.every_run_ends.ensures.ends c.a_run_ends_once.ensures.steps
