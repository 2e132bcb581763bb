use Rattle.std.proofs.Common.{◌≡◌, ℕ, ◌+◌, ◌-◌, ◌<◌, ◌≤◌, length}
use Rattle.memchr.specs.Find.{Nowhere}
use Rattle.sieve_match.specs.TwoWay.{folded_octet, StandsAt}
use Rattle.sieve_match.proofs.two_way.Plan.find.Given as goal

abbrev pub invariant-places : goal.invariant-places
invariant-places l = (l.at ≤ length l.value) × Nowhere (StandsAt l.value l.key) 0 l.at
    × (l.known < length l.key) × ((k : ℕ) → k < l.known → folded_octet l.key k ≡ folded_octet l.value (l.at + k))

abbrev pub decreases-places : goal.decreases-places
decreases-places l = length l.value - l.at
