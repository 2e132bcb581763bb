-- The code of procedures, as it is added to the output.
use Rattle.std.specs.Prelude.{◌≡◌, ℕ, ◌+◌, ◌≤◌, List, [], ◌++◌, length, Some, slice_get}
use Rattle.filing_image.specs.declared.instruction.Operation.{Operation}
use Rattle.filing_image.specs.declared.instruction.Operation.TheVariants.{Return}
use Rattle.filing_flow.specs.Structure.{Flow, block, size}
use Rattle.filing_flow.specs.Code.{Stands}
use Rattle.filing_flow.specs.Procedures.{places_from, whole_size, ProceduresStand}
use Rattle.filing_gen.specs.Adds.{operands_of, Keeps}
use Rattle.filing_gen.specs.declared.output.Output.{Output}

-- The operations of a procedure and its RETURN were added, and operands still name what they named.
pub record EmitsProcedure (old new : Output) (a : Flow) : Type 0 where
  pub keeps : Keeps old new (size a)
  pub added : List Operation
  pub code : new.code.items ≡ old.code.items ++ added
  pub long : length added ≡ size a + 1
  pub stands : Stands (operands_of new) new.code.items (block a) [] (length old.code.items)
  pub ends : slice_get new.code.items (length old.code.items + size a) ≡ Some Return

-- The output is the code of these procedures, which have these first places.
pub record IsSharedCode (o : Output) (first_places : List ℕ) (procedures : List Flow) : Type 0 where
  pub places : first_places ≡ places_from 0 procedures
  pub stand : ProceduresStand (operands_of o) o.code.items procedures 0
  pub long : length o.code.items ≡ whole_size procedures
  pub texts : length o.texts ≤ whole_size procedures
  pub numbers : length o.numbers ≤ whole_size procedures
