use Rattle.sieve_meaning.proofs.MatchingLemmas.{covers_decided}
use Rattle.sieve_meaning.proofs.laws.pattern_is_decided.Goals as goal

pub returns : goal.returns
returns c = covers_decided
