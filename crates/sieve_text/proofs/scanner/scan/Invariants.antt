use Rattle.std.proofs.Common.{◌-◌, length, ◌≤◌}
use Rattle.sieve_text.specs.Tokens.{Reads}
use Rattle.sieve_text.proofs.scanner.scan.Given as goal

abbrev pub invariant-loop-tokens : goal.invariant-loop-tokens
invariant-loop-tokens l = Reads l.script 0 l.tokens.items l.at × (l.at ≤ length l.script)

abbrev pub decreases-loop-tokens : goal.decreases-loop-tokens
decreases-loop-tokens l = length l.script - l.at
