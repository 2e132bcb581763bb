use Rattle.std.proofs.Common.{◌≡◌, ◌-◌, ◌==◌, ℕ, drop}
use Rattle.record_adoption.specs.Counts.{count_at, tally}
use Rattle.record_adoption.proofs.tallies.take_each.Given as goal

abbrev pub invariant-loop-number : goal.invariant-loop-number
invariant-loop-number l = (n : ℕ) → count_at l.counts n - tally (λ k. k == n) (drop l.number-index l.numbers)
    ≡ count_at l.fn.counts n - tally (λ k. k == n) l.numbers
