use Rattle.std.proofs.Common.{◌≡◌, ◌+◌, drop, map}
use Rattle.sieve_syntax.specs.View.{test_of, inner_of}
use Rattle.sieve_meaning.specs.Reading.{tests_in}
use Rattle.sieve_meaning.specs.Weight.{tests_weight}
use Rattle.filing_gen.proofs.WeightLemmas.{sum_of}
use Rattle.filing_gen.proofs.weight.+test_weights.Given as goal

abbrev pub invariant-weigh_tests-loop-test : goal.invariant-weigh_tests-loop-test
invariant-weigh_tests-loop-test l = l.left + sum_of (map test_of (drop l.test-index l.test-items))
    ≡ l.rest + tests_weight (tests_in (inner_of l.tests))
