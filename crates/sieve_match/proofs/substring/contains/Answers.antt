use Rattle.sieve_match.proofs.FoldLemmas.{contains_test}
use Rattle.sieve_match.proofs.OccurrenceLemmas.{contains_found}
use Rattle.sieve_match.proofs.substring.contains.Goals as goal

pub returns-clause-answer : goal.returns-clause-answer
returns-clause-answer c =
    contains_found c.args.comparator c.args.key.now c.args.value.now c.find.result c.is_some.result c.find.ensures
    c.is_some.ensures

pub returns-clause-test : goal.returns-clause-test
returns-clause-test c = contains_test c.args.comparator c.args.key.now c.args.value.now c.is_some.result (returns-clause-answer c)
