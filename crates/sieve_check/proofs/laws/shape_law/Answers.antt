use Rattle.sieve_check.proofs.Shaped.{shape_law}
use Rattle.sieve_check.proofs.laws.shape_law.Goals as goal

pub returns : goal.returns
returns c = shape_law
