use Rattle.filing_verify.specs.Passes.{Costing}
use Rattle.filing_verify.proofs.cost_with_calls.cost_of_start.Given as goal

abbrev pub invariant-loop-place : goal.invariant-loop-place
invariant-loop-place l = Costing l.image l.place l.costs.items
