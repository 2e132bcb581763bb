use Rattle.sieve_meaning.proofs.PartLaws.{part_law}
use Rattle.sieve_meaning.proofs.laws.parts_are_read.Goals as goal

pub returns : goal.returns
returns c = part_law
