use Rattle.sieve_check.proofs.Shaped.{if_law}
use Rattle.sieve_check.proofs.laws.if_law.Goals as goal

pub returns : goal.returns
returns c = if_law
