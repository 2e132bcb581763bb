use Rattle.sieve_meaning.proofs.ReachLemmas.{reach_law}
use Rattle.sieve_meaning.proofs.laws.reaching_is_decided.Goals as goal

pub returns : goal.returns
returns c = reach_law
