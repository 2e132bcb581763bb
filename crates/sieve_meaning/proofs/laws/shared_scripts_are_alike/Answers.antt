use Rattle.sieve_meaning.proofs.SharingLemmas.{sharing_law}
use Rattle.sieve_meaning.proofs.laws.shared_scripts_are_alike.Goals as goal

pub returns : goal.returns
returns c = sharing_law
