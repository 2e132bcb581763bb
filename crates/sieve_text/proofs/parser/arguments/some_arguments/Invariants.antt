use Rattle.std.proofs.Common.{◌≡◌, ◌≤◌, length}
use Rattle.sieve_text.specs.Lexemes.{kinds_in, left_in}
use Rattle.sieve_text.specs.Reading.{argument_at, arguments_at}
use Rattle.sieve_text.proofs.Many.{GoesOn}
use Rattle.sieve_text.proofs.parser.arguments.some_arguments.Given as goal

abbrev pub invariant-loop-arguments : goal.invariant-loop-arguments
invariant-loop-arguments l = GoesOn argument_at l.arguments.items (kinds_in l.rest) (arguments_at (kinds_in l.text))
    × (length (kinds_in l.rest) ≤ length (kinds_in l.text)) × (left_in l.rest ≡ left_in l.text)

abbrev pub decreases-loop-arguments : goal.decreases-loop-arguments
decreases-loop-arguments l = length (kinds_in l.rest)
