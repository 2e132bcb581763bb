use Rattle.std.proofs.Common.{◌≡◌, ℕ, ◌<◌, Some, slice_get}
use Rattle.filing_image.specs.declared.instruction.Operation.{Operation}
use Rattle.filing_verify.specs.Flow.{jump_target, procedure_of}
use Rattle.filing_verify.proofs.range.jumps_stay.Given as goal

abbrev pub invariant-loop-place : goal.invariant-loop-place
invariant-loop-place l = (p : ℕ) → p < l.place → (q : ℕ) (o : Operation) → slice_get l.image.code p ≡ Some o
    → jump_target o ≡ Some q → procedure_of l.image q ≡ procedure_of l.image p
