use Rattle.sieve_syntax.proofs.Views.{inner_of-None}
use Rattle.sieve_text.specs.Reading.{test_at}
use Rattle.sieve_text.proofs.parser.commands.command_tests.Goals as goal

pub returns-then-has_no_test-clause-value : goal.returns-then-has_no_test-clause-value
returns-then-has_no_test-clause-value c = rw inner_of-None (c.has_no_test.ensures c.if-has_no_test.true (test_at 32))
