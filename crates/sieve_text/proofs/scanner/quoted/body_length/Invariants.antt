use Rattle.std.proofs.Common.{◌≡◌, ◌+◌, drop, false}
use Rattle.sieve_text.specs.Strings.{quoted_len}
use Rattle.sieve_text.proofs.scanner.quoted.body_length.Given as goal

abbrev pub invariant-loop-i : goal.invariant-loop-i
invariant-loop-i l = l.i + quoted_len l.escaped (drop l.i l.rest) ≡ quoted_len false l.rest
