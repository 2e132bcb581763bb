use Rattle.std.proofs.Common.{◌≡◌, ℕ, ◌+◌, ◌<◌, ◌≤◌}
use Rattle.sieve_match.specs.TwoWay.{folded_octet}
use Rattle.sieve_match.proofs.two_way.fits_between.Given as goal

abbrev pub invariant-loop-place : goal.invariant-loop-place
invariant-loop-place l = (k : ℕ) → l.low ≤ k → k < l.place → folded_octet l.key k ≡ folded_octet l.value (l.at + k)
