use Rattle.std.proofs.Common.{◌≡◌, ◌+◌, length}
use Rattle.sieve_text.specs.Octets.{stray_len}
use Rattle.sieve_text.proofs.scanner.octets.first_stray.Given as goal

abbrev pub invariant-octets : goal.invariant-octets
invariant-octets l = (l.n + stray_len l.rest ≡ stray_len l.fn.script) × (l.n + length l.rest ≡ length l.fn.script)

abbrev pub decreases-octets : goal.decreases-octets
decreases-octets l = length l.rest
