use Rattle.std.proofs.Common.{ℕ, ◌<◌, slice_index_or}
use Rattle.filing_image.specs.declared.instruction.Operation.{Operation}
use Rattle.filing_image.specs.Program.{instruction_of}
use Rattle.filing_image.specs.Spelling.{FitsInstruction}
use Rattle.filing_image.proofs.image.all_fit.Given as goal

abbrev pub invariant-loop-operation : goal.invariant-loop-operation
invariant-loop-operation l = (k : ℕ) (d : Operation) → k < l.operation-index → FitsInstruction (instruction_of (slice_index_or l.code k d))
