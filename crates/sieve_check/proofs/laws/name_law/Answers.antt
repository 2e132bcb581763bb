use Rattle.sieve_check.proofs.Shaped.{name_law}
use Rattle.sieve_check.proofs.laws.name_law.Goals as goal

pub returns : goal.returns
returns c = name_law
