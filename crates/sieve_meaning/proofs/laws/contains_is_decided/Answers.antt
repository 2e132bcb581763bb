use Rattle.sieve_meaning.proofs.MatchingLemmas.{contains_decided}
use Rattle.sieve_meaning.proofs.laws.contains_is_decided.Goals as goal

pub returns : goal.returns
returns c = contains_decided
