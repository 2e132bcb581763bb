use Rattle.std.proofs.Common.{◌≡◌, ◌+◌, ◌*◌, ◌≤◌, length, map}
use Rattle.sieve_syntax.specs.View.{command_of}
use Rattle.sieve_text.specs.Lexemes.{kinds_in, left_in}
use Rattle.sieve_text.specs.Reading.{many_at, command_with, inside_at}
use Rattle.sieve_text.proofs.Many.{GoesOn}
use Rattle.sieve_text.proofs.parser.commands.+command_reader.Given as goal

abbrev pub decreases-read_ending : goal.decreases-read_ending
decreases-read_ending l = 3 * l.depth

abbrev pub decreases-next_command : goal.decreases-next_command
decreases-next_command l = 3 * l.depth + 1

abbrev pub decreases-commands : goal.decreases-commands
decreases-commands l = 3 * l.depth + 2

abbrev pub invariant-commands-loop-commands : goal.invariant-commands-loop-commands
invariant-commands-loop-commands l =
    GoesOn (command_with 32 (inside_at 32 l.depth)) (map command_of l.commands.items) (kinds_in l.rest)
    (many_at (command_with 32 (inside_at 32 l.depth)) (length (kinds_in l.fn.text)) (kinds_in l.fn.text))
    × (length (kinds_in l.rest) ≤ length (kinds_in l.fn.text)) × (left_in l.rest ≡ left_in l.fn.text)

abbrev pub decreases-commands-loop-commands : goal.decreases-commands-loop-commands
decreases-commands-loop-commands l = length (kinds_in l.rest)
