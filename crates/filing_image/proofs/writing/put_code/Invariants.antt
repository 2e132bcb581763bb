use Rattle.std.proofs.Common.{◌≡◌, ◌++◌, map, take}
use Rattle.std.specs.List.{flat_map}
use Rattle.filing_image.specs.Program.{instruction_of}
use Rattle.filing_image.specs.Spelling.{instruction}
use Rattle.filing_image.proofs.writing.put_code.Given as goal

abbrev pub invariant-loop-operation : goal.invariant-loop-operation
invariant-loop-operation l = l.out.items ≡ l.fn.out.items ++ flat_map instruction (map instruction_of (take l.operation-index l.code))
