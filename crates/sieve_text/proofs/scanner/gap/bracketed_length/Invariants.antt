use Rattle.std.proofs.Common.{◌≡◌, ◌+◌, drop, false}
use Rattle.sieve_text.specs.Gaps.{bracketed_len}
use Rattle.sieve_text.proofs.scanner.gap.bracketed_length.Given as goal

abbrev pub invariant-loop-i : goal.invariant-loop-i
invariant-loop-i l = l.i + bracketed_len l.after_star (drop l.i l.body) ≡ bracketed_len false l.body
