use Rattle.sieve_check.proofs.Shaped.{header_law}
use Rattle.sieve_check.proofs.laws.header_law.Goals as goal

pub returns : goal.returns
returns c = header_law
