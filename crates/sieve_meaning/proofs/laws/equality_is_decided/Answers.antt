use Rattle.sieve_meaning.proofs.MatchingLemmas.{equals_decided}
use Rattle.sieve_meaning.proofs.laws.equality_is_decided.Goals as goal

pub returns : goal.returns
returns c = equals_decided
