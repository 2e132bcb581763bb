use Rattle.sieve_text.proofs.TreeLaws.{at_most_one}
use Rattle.sieve_text.proofs.parser.laws.one_tree.Goals as goal

pub returns : goal.returns
returns c = at_most_one
