use Rattle.sieve_check.proofs.Shaped.{fileinto_law}
use Rattle.sieve_check.proofs.laws.fileinto_law.Goals as goal

pub returns : goal.returns
returns c = fileinto_law
