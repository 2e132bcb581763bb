use Rattle.std.proofs.Common.{◌≡◌, drop, map}
use Rattle.std.specs.Option.{option_map}
use Rattle.sieve_syntax.specs.View.{test_of, inner_of}
use Rattle.sieve_check.specs.Context.{has_of}
use Rattle.sieve_check.specs.Faults.{number_of}
use Rattle.sieve_check.specs.Rules.{lesser, least, inner_breaches}
use Rattle.sieve_check.proofs.Judging.{broken_by_each}
use Rattle.sieve_check.proofs.command_faults.+judging.Given as goal

abbrev pub invariant-tests_fault-loop-test : goal.invariant-tests_fault-loop-test
invariant-tests_fault-loop-test l =
    lesser (option_map number_of l.fault)
    (least (broken_by_each (has_of l.named) (map test_of (drop l.test-index l.test-items))))
    ≡ least (inner_breaches (has_of l.named) (inner_of l.fn.tests))
