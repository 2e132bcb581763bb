use Rattle.sieve_text.proofs.CutLaws.{tokens_law}
use Rattle.sieve_text.proofs.laws.cut.Goals as goal

pub returns : goal.returns
returns c = tokens_law
