use Rattle.std.proofs.Common.{◌≡◌, ◌++◌, length}
use Rattle.sieve_text.specs.Strings.{with_crlf, without_stuffing, lines_value}
use Rattle.sieve_text.proofs.scanner.multi_line.value.Given as goal

abbrev pub invariant-octets : goal.invariant-octets
invariant-octets l = l.octets.items ++ with_crlf l.after_cr (without_stuffing l.at_start l.rest) ≡ lines_value l.fn.lines

abbrev pub decreases-octets : goal.decreases-octets
decreases-octets l = length l.rest
