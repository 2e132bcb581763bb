use Rattle.std.proofs.Common.{◌≡◌, ◌+◌, length, true}
use Rattle.sieve_text.specs.Strings.{lines_len}
use Rattle.sieve_text.proofs.scanner.multi_line.lines_length.Given as goal

abbrev pub invariant-octets : goal.invariant-octets
invariant-octets l = (l.n + lines_len l.at_start l.rest ≡ lines_len true l.fn.lines) × (l.n + length l.rest ≡ length l.fn.lines)

abbrev pub decreases-octets : goal.decreases-octets
decreases-octets l = length l.rest
