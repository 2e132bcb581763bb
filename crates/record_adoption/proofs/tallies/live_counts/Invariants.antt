use Rattle.std.proofs.Common.{◌≡◌, ◌+◌, ◌==◌, ◌&&◌, not, ℕ, drop}
use Rattle.record_adoption.specs.Counts.{count_at, tally}
use Rattle.record_adoption.proofs.tallies.live_counts.Given as goal

abbrev pub invariant-loop-record : goal.invariant-loop-record
invariant-loop-record l = (m : ℕ)
    → count_at l.counts m + tally (λ r. not r.destroyed && (r.message == m)) (drop l.record-index l.records)
    ≡ tally (λ r. not r.destroyed && (r.message == m)) l.records
