use Rattle.std.proofs.Common.{◌≡◌, map, take, All}
use Rattle.filing_image.specs.Program.{instruction_of}
use Rattle.filing_image.specs.Spelling.{FitsInstruction}
use Rattle.filing_image.proofs.image.operations.Given as goal

abbrev pub invariant-loop-instruction : goal.invariant-loop-instruction
invariant-loop-instruction l = (map instruction_of l.code.items ≡ take l.instruction-index l.instructions)
    × All FitsInstruction (map instruction_of l.code.items)
