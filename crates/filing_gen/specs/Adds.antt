-- The output so far, and what a piece of code adds to it.
use Rattle.std.specs.Prelude.{◌≡◌, ℕ, ◌+◌, ◌<◌, ◌≤◌, ◌^◌, List, [], ◌∷◌, ◌++◌, length, Option, Some, slice_get}
use Rattle.filing_image.specs.declared.instruction.Operation.{Operation}
use Rattle.filing_flow.specs.Structure.{Flow, size}
use Rattle.filing_flow.specs.Code.{Operands, Stands, end_at}
use Rattle.filing_flow.specs.Types.{Shape, HasType}
use Rattle.filing_flow.specs.Whole.{whole}
use Rattle.filing_image.specs.Program.{Program}
use Rattle.filing_gen.specs.Ends.{no_place}
use Rattle.filing_gen.specs.Pools.{IsAmong}
use Rattle.filing_gen.specs.declared.output.Output.{Output}

-- an operand is the place of a text, or of a number, that was added
abbrev pub operands_of : Output → Operands
operands_of o = record { text = λ b t. IsAmong (t, b) o.texts; number = λ b k. IsAmong (k, b) o.numbers }

-- One operation was added at the end, and nothing else.
pub record Puts (old new : Output) (o : Operation) : Type 0 where
  pub texts : new.texts ≡ old.texts
  pub numbers : new.numbers ≡ old.numbers
  pub code : new.code.items ≡ old.code.items ++ o ∷ []

-- Operands still name what they named, and at most n texts and n numbers were added.
pub record Keeps (old new : Output) (n : ℕ) : Type 0 where
  pub text : (b : ℕ) (t : List ℕ) → IsAmong (t, b) old.texts → IsAmong (t, b) new.texts
  pub number : (b k : ℕ) → IsAmong (k, b) old.numbers → IsAmong (k, b) new.numbers
  pub texts : length new.texts ≤ length old.texts + n
  pub numbers : length new.numbers ≤ length old.numbers + n

-- At most one text and one number were added, and no operation.
pub record Brings (old new : Output) : Type 0 where
  pub keeps : Keeps old new 1
  pub code : new.code ≡ old.code

-- The operations of the code were added, where the blocks around it have these ends, the innermost first.
pub record Emits (old new : Output) (a : Flow) (ends : List ℕ) : Type 0 where
  pub keeps : Keeps old new (size a)
  pub added : List Operation
  pub code : new.code.items ≡ old.code.items ++ added
  pub long : length added ≡ size a
  pub stands : Stands (operands_of new) new.code.items a ends (length old.code.items)

-- The operations of the code were added, wherever the blocks around it end.
abbrev pub EmitsAnywhere : (old new : Output) → Flow → Type 0
EmitsAnywhere old new a = (ends : List ℕ) → Emits old new a ends

-- The operations of the code were added, where the end of the innermost block around it is not known yet.
abbrev pub EmitsUnended : (old new : Output) → Flow → Type 0
EmitsUnended old new a = (ends : List ℕ) → end_at ends 0 ≡ no_place → Emits old new a ends

-- The operations of the code were added, where its `return` leaves the block with some number, which ends at a place.
abbrev pub EmitsReturning : (old new : Output) → (place : ℕ) → (ℕ → Flow) → Type 0
EmitsReturning old new place code = (n : ℕ) (ends : List ℕ) → end_at ends n ≡ place → Emits old new (code n) ends

-- Code that finds nothing on the stack leaves nothing there, also where it jumps to the end of the block around it.
abbrev pub LeavesNothing : Flow → Type 0
LeavesNothing a = (around : List Shape) → HasType a ([] ∷ around) [] []

-- There is room for n operations, n texts and n numbers.
abbrev pub HasRoom : Output → ℕ → Type 0
HasRoom o n = (length o.code.items + n < 2 ^ 16) × (length o.texts + n < 2 ^ 16) × (length o.numbers + n < 2 ^ 16)

-- The output is the code of a whole script, and the end of the run.
pub record IsCode (o : Output) (a : Flow) : Type 0 where
  pub stands : Stands (operands_of o) o.code.items (whole a) [] 0
  pub long : length o.code.items ≡ size (whole a)
  pub texts : length o.texts ≤ size (whole a)
  pub numbers : length o.numbers ≤ size (whole a)

-- The program is the output, with this budget, number of slots and first places of its procedures.
pub record IsImageOfOutput (budget count : ℕ) (first_places : Option (List ℕ)) (o : Output) (p : Program) : Type 0 where
  pub budget_is : p.budget ≡ budget
  pub slots : p.slots ≡ count
  pub procedures_are : p.procedures ≡ first_places
  pub text : (b : ℕ) (t : List ℕ) → IsAmong (t, b) o.texts → slice_get p.texts b ≡ Some t
  pub number : (b k : ℕ) → IsAmong (k, b) o.numbers → slice_get p.numbers b ≡ Some k
  pub code : p.code ≡ o.code.items
