use Rattle.filing_verify.specs.Passes.{Costs}
use Rattle.filing_verify.proofs.cost.longest.Given as goal

abbrev pub invariant-loop-place : goal.invariant-loop-place
invariant-loop-place l = Costs l.image l.place l.costs.items
