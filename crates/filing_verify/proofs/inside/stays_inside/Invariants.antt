use Rattle.std.proofs.Common.{ℕ, ◌<◌}
use Rattle.filing_verify.specs.Flow.{IsReached}
use Rattle.filing_verify.specs.Passes.{RunsOn}
use Rattle.filing_verify.proofs.inside.stays_inside.Given as goal

abbrev pub invariant-loop-place : goal.invariant-loop-place
invariant-loop-place l = (p : ℕ) → p < l.place → IsReached l.image p → RunsOn l.image p → ⊥
