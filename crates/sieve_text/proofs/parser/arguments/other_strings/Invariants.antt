use Rattle.std.proofs.Common.{◌≡◌, ◌≤◌, length}
use Rattle.sieve_text.specs.Lexemes.{kinds_in, left_in}
use Rattle.sieve_text.specs.Reading.{string_at, next_with, other_strings_at}
use Rattle.sieve_text.proofs.Many.{GoesOn}
use Rattle.sieve_text.proofs.parser.arguments.other_strings.Given as goal

abbrev pub invariant-loop-others : goal.invariant-loop-others
invariant-loop-others l =
    GoesOn (next_with string_at) l.others.items (kinds_in l.rest) (other_strings_at (kinds_in l.text))
    × (length (kinds_in l.rest) ≤ length (kinds_in l.text)) × (left_in l.rest ≡ left_in l.text)

abbrev pub decreases-loop-others : goal.decreases-loop-others
decreases-loop-others l = length (kinds_in l.rest)
