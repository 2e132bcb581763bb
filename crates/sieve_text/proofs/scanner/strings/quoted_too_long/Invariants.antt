use Rattle.std.proofs.Common.{◌≡◌, ◌+◌, length, drop}
use Rattle.sieve_text.specs.Strings.{with_crlf, without_escapes, quoted_value}
use Rattle.sieve_text.proofs.scanner.strings.quoted_too_long.Given as goal

abbrev pub invariant-loop-b : goal.invariant-loop-b
invariant-loop-b l = l.room + length (quoted_value l.body) ≡ 65535 + length (with_crlf l.after_cr (without_escapes l.escaped (drop l.b-index l.body)))
