use Rattle.sieve_check.proofs.Shaped.{size_law}
use Rattle.sieve_check.proofs.laws.size_law.Goals as goal

pub returns : goal.returns
returns c = size_law
