use Rattle.std.proofs.Common.{◌≡◌, ◌≤◌, ◌-◌, List, length}
use Rattle.sieve_syntax.specs.declared.token.Token.{Token}
use Rattle.sieve_text.specs.Tokens.{Reads}
use Rattle.sieve_text.proofs.scanner.count_tokens.Given as goal

abbrev pub invariant-loop-next : goal.invariant-loop-next
invariant-loop-next l = ((ts : List Token) × Reads l.script 0 ts l.at × (length ts ≡ l.count)) × (l.at ≤ length l.script) × (l.count ≤ l.at)

abbrev pub decreases-loop-next : goal.decreases-loop-next
decreases-loop-next l = length l.script - l.at
