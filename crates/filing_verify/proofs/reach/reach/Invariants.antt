use Rattle.filing_verify.specs.Passes.{Marks}
use Rattle.filing_verify.proofs.reach.reach.Given as goal

abbrev pub invariant-loop-place : goal.invariant-loop-place
invariant-loop-place l = Marks l.image l.place l.marks.items
