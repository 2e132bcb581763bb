use Rattle.std.proofs.Common.{◌≡◌, ◌++◌, length}
use Rattle.test_rows.specs.Escapes.{unescaped}
use Rattle.test_rows.proofs.octets_of.Given as goal

abbrev pub invariant-loop-octet : goal.invariant-loop-octet
invariant-loop-octet l = l.octets.items ++ unescaped l.rest ≡ unescaped l.text

abbrev pub decreases-loop-octet : goal.decreases-loop-octet
decreases-loop-octet l = length l.rest
