use Rattle.std.proofs.Common.{◌≡◌, ◌+◌, length}
use Rattle.sieve_text.specs.Strings.{with_crlf, without_stuffing, lines_value}
use Rattle.sieve_text.proofs.scanner.strings.lines_too_long.Given as goal

abbrev pub invariant-octets : goal.invariant-octets
invariant-octets l = l.room + length (lines_value l.fn.lines) ≡ 65535 + length (with_crlf l.after_cr (without_stuffing l.at_start l.rest))

abbrev pub decreases-octets : goal.decreases-octets
decreases-octets l = length l.rest
