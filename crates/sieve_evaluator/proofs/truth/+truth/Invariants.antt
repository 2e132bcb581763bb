use Rattle.std.proofs.Common.{◌≡◌, drop, map}
use Rattle.std.specs.List.{list_all, list_any}
use Rattle.sieve_syntax.specs.View.{test_of, inner_of}
use Rattle.sieve_meaning.specs.Reading.{test_in, tests_in}
use Rattle.sieve_meaning.specs.Truth.{truth, all_true, some_true}
use Rattle.sieve_evaluator.specs.Case.{facts_of}
use Rattle.sieve_evaluator.proofs.truth.+truth.Given as goal

abbrev pub invariant-are_all_true-loop-test : goal.invariant-are_all_true-loop-test
invariant-are_all_true-loop-test g l =
    list_all (λ t. truth (facts_of l.case) (test_in t)) (map test_of (drop l.test-index l.test-items))
    ≡ all_true (facts_of l.case) (tests_in (inner_of l.tests))

abbrev pub invariant-is_some_true-loop-test : goal.invariant-is_some_true-loop-test
invariant-is_some_true-loop-test g l =
    list_any (λ t. truth (facts_of l.case) (test_in t)) (map test_of (drop l.test-index l.test-items))
    ≡ some_true (facts_of l.case) (tests_in (inner_of l.tests))
