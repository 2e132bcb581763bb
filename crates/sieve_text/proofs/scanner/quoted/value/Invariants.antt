use Rattle.std.proofs.Common.{◌≡◌, ◌++◌, drop}
use Rattle.sieve_text.specs.Strings.{with_crlf, without_escapes, quoted_value}
use Rattle.sieve_text.proofs.scanner.quoted.value.Given as goal

abbrev pub invariant-loop-b : goal.invariant-loop-b
invariant-loop-b l = l.octets.items ++ with_crlf l.after_cr (without_escapes l.escaped (drop l.b-index l.body)) ≡ quoted_value l.body
