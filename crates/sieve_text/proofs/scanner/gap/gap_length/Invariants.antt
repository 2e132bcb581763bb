use Rattle.std.proofs.Common.{◌≡◌, ◌+◌, ◌-◌, ◌≤◌, drop, length}
use Rattle.sieve_text.specs.Gaps.{gap_len}
use Rattle.sieve_text.proofs.scanner.gap.gap_length.Given as goal

abbrev pub invariant-gap : goal.invariant-gap
invariant-gap l = (l.at + gap_len 0 (drop l.at l.rest) ≡ gap_len 0 l.rest) × (l.at ≤ length l.rest)

abbrev pub decreases-gap : goal.decreases-gap
decreases-gap l = length l.rest - l.at
