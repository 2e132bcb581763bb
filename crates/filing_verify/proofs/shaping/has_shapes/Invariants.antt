use Rattle.std.proofs.Common.{◌≡◌, replicate, None}
use Rattle.filing_verify.specs.Passes.{Shaping}
use Rattle.filing_verify.proofs.shaping.has_shapes.Given as goal

abbrev pub invariant-loop : goal.invariant-loop
invariant-loop l = l.table.items ≡ replicate l.counter None

abbrev pub invariant-loop-place : goal.invariant-loop-place
invariant-loop-place l = Shaping l.image l.place l.table.items
