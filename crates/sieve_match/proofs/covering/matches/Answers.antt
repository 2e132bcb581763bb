use Rattle.sieve_match.proofs.PieceLemmas.{covers_test}
use Rattle.sieve_meaning.specs.Matching.{items_of}
use Rattle.sieve_match.proofs.covering.matches.Goals as goal

pub returns-clause-test : goal.returns-clause-test
returns-clause-test c =
    covers_test c.args.comparator (items_of c.args.pattern.now) c.args.value.now c.pieces_cover.result c.pieces_cover.ensures
