use Rattle.std.proofs.Common.{◌≡◌, ℕ, ◌+◌, ◌-◌, ◌<◌, ◌≤◌, length}
use Rattle.sieve_match.specs.TwoWay.{folded_octet}
use Rattle.sieve_match.proofs.two_way.fits_to.Given as goal

abbrev pub invariant-loop-end : goal.invariant-loop-end
invariant-loop-end l = (l.start ≤ l.end) × (l.end ≤ length l.key)
    × ((k : ℕ) → l.start ≤ k → k < l.end → folded_octet l.key k ≡ folded_octet l.value (l.at + k))

abbrev pub decreases-loop-end : goal.decreases-loop-end
decreases-loop-end l = length l.key - l.end
