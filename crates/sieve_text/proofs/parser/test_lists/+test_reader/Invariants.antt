use Rattle.std.proofs.Common.{◌≡◌, ◌+◌, ◌*◌, ◌≤◌, length, map}
use Rattle.sieve_syntax.specs.View.{test_of}
use Rattle.sieve_text.specs.Lexemes.{kinds_in, left_in}
use Rattle.sieve_text.specs.Reading.{next_with, many_at, test_at}
use Rattle.sieve_text.proofs.Many.{GoesOn}
use Rattle.sieve_text.proofs.parser.test_lists.+test_reader.Given as goal

abbrev pub decreases-named_test : goal.decreases-named_test
decreases-named_test l = 6 * l.depth

abbrev pub decreases-read_test : goal.decreases-read_test
decreases-read_test l = 6 * l.depth + 1

abbrev pub decreases-next_test : goal.decreases-next_test
decreases-next_test l = 6 * l.depth + 2

abbrev pub decreases-other_tests : goal.decreases-other_tests
decreases-other_tests l = 6 * l.depth + 3

abbrev pub decreases-test_list : goal.decreases-test_list
decreases-test_list l = 6 * l.depth + 4

abbrev pub decreases-inner_tests : goal.decreases-inner_tests
decreases-inner_tests l = 6 * l.depth + 5

abbrev pub invariant-other_tests-loop-tests : goal.invariant-other_tests-loop-tests
invariant-other_tests-loop-tests l =
    GoesOn (next_with (test_at l.depth)) (map test_of l.tests.items) (kinds_in l.rest)
    (many_at (next_with (test_at l.depth)) (length (kinds_in l.fn.text)) (kinds_in l.fn.text))
    × (length (kinds_in l.rest) ≤ length (kinds_in l.fn.text)) × (left_in l.rest ≡ left_in l.fn.text)

abbrev pub decreases-other_tests-loop-tests : goal.decreases-other_tests-loop-tests
decreases-other_tests-loop-tests l = length (kinds_in l.rest)
