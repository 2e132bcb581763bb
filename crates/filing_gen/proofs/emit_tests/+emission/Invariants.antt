use Rattle.std.proofs.Common.{drop, map}
use Rattle.sieve_syntax.specs.View.{test_of, inner_of}
use Rattle.sieve_meaning.specs.Reading.{tests_in}
use Rattle.filing_gen.specs.BlockCode.{tests_flow}
use Rattle.filing_gen.proofs.Emitted.{Completes}
use Rattle.filing_gen.proofs.EmittedTests.{row_flow, Unknown}
use Rattle.filing_gen.proofs.emit_tests.+emission.Given as goal

abbrev pub invariant-emit_tests-loop-test : goal.invariant-emit_tests-loop-test
invariant-emit_tests-loop-test l =
    Completes l.fn.out l.out (row_flow l.stop (map test_of (drop l.test-index l.test-items)))
    (tests_flow l.stop (tests_in (inner_of l.tests))) Unknown
