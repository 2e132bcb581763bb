use Rattle.sieve_evaluator.proofs.ActLemmas.{acts_done}
use Rattle.sieve_evaluator.proofs.laws.acts_are_done.Goals as goal

pub returns : goal.returns
returns c = acts_done
