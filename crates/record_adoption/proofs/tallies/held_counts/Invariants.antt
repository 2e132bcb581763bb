use Rattle.std.proofs.Common.{◌≡◌, ◌+◌, ◌==◌, ℕ, drop}
use Rattle.record_adoption.specs.Counts.{count_at, tally}
use Rattle.record_adoption.proofs.tallies.held_counts.Given as goal

abbrev pub invariant-loop-hold : goal.invariant-loop-hold
invariant-loop-hold l = (n : ℕ) → count_at l.counts n + tally (λ h. h.record == n) (drop l.hold-index l.holds) ≡ tally (λ h. h.record == n) l.holds
