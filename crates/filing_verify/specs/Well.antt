-- Which programs may run, and by which rule each other one is refused.
use Rattle.std.specs.Prelude.{◌≡◌, ℕ, ◌+◌, ◌≤◌, ◌<◌, List, length, Bool, true, false, max, Option, Some, None, slice_get, slice_index, All}
use Rattle.filing_image.specs.Program.{Program, first_places}
use Rattle.filing_image.specs.declared.instruction.Operation.{Operation}
use Rattle.filing_image.specs.declared.instruction.Operation.TheVariants.{Values, Match, Exists, Number, Jump, JumpIf, JumpUnless, Marked, Mark, File, Fault, Call, Return}
use Rattle.filing_verify.specs.declared.fault.VerifyFault.{VerifyFault}
use Rattle.filing_verify.specs.declared.fault.VerifyFault.TheVariants.{NoMemory, Operand, Backward, Stack, RunsOff, Budget}
use Rattle.filing_verify.specs.Flow.{jump_target, target, goes_on, Path, IsReached, procedure_of, Continues}
use Rattle.filing_verify.specs.Shapes.{HasShapes}

-- Each operand names something that exists, or has one of its values. For Match, 0 to 5 are the comparisons; for File, 1
-- is a copy; for Fault, 2 to 5 are the faults. Only programs with procedures have calls and returns.
abbrev pub InRange : Program → Operation → Type 0
InRange p (Values b) = b < length p.texts
InRange p (Match a b) = (a ≤ 5) × (b < length p.texts)
InRange p (Exists b) = b < length p.texts
InRange p (Number b) = b < length p.numbers
InRange p (Jump b) = b < length p.code
InRange p (JumpIf b) = b < length p.code
InRange p (JumpUnless b) = b < length p.code
InRange p (Marked b) = b < p.slots
InRange p (Mark b) = b < p.slots
InRange p (File a b) = (a ≤ 1) × (b < length p.texts)
InRange p (Fault a) = (2 ≤ a) × (a ≤ 5)
InRange p (Call b) = b < length (first_places p)
InRange p Return = 0 < length (first_places p)
InRange p _ = Unit {0}

-- each number is greater than the one before it
abbrev pub Ascends : List ℕ → Type 0
Ascends numbers = (i : ℕ) → i + 1 < length numbers → slice_index numbers i < slice_index numbers (i + 1)

-- the first places of 1 to 256 procedures in code with this number of places: the first is 0, and each other one is
-- greater than the one before it
pub record AreFirstPlaces (places : ℕ) (firsts : List ℕ) : Type 0 where
  pub some : 0 < length firsts
  pub most : length firsts ≤ 256
  pub start : slice_index firsts 0 ≡ 0
  pub ascending : Ascends firsts
  pub within : All (λ f. f < places) firsts

-- the procedures of a version 2 program; version 1 has none
abbrev pub HasProcedures : Program → Option (List ℕ) → Type 0
HasProcedures p None = Unit {0}
HasProcedures p (Some firsts) = AreFirstPlaces (length p.code) firsts

-- each jump, reached or not, goes to a place of its own procedure
abbrev pub JumpsStay : Program → Type 0
JumpsStay p = (i q : ℕ) (o : Operation) → slice_get p.code i ≡ Some o → jump_target o ≡ Some q →
    procedure_of p q ≡ procedure_of p i

-- at most 64 slots, each operation, reached or not, in range, procedures as version 2 must have them, and no jump out of
-- its procedure
pub record AreInRange (p : Program) : Type 0 where
  pub slots : p.slots ≤ 64
  pub each : All (InRange p) p.code
  pub procedures : HasProcedures p p.procedures
  pub jumps : JumpsStay p

-- each reached jump goes to a greater place, and each reached call to a procedure whose number is greater than that of
-- its own
pub record GoesForward (program : Program) : Type 0 where
  pub jumps : (p q : ℕ) (o : Operation) → IsReached program p → slice_get program.code p ≡ Some o →
      jump_target o ≡ Some q → p < q
  pub calls : (p b : ℕ) → IsReached program p → slice_get program.code p ≡ Some (Call b) → procedure_of program p < b

-- there is a place, and no reached place goes on or jumps out of its own procedure, nor past the end
pub record StaysInside (program : Program) : Type 0 where
  pub some : 0 < length program.code
  pub inside : (p q : ℕ) → IsReached program p → Continues program p q →
      (q < length program.code) × (procedure_of program q ≡ procedure_of program p)

-- the greatest budget that a program may declare: more in version 2
abbrev pub greatest_budget : Option (List ℕ) → ℕ
greatest_budget None = 65535
greatest_budget (Some firsts) = 1000000

abbrev pub is_call : Operation → Bool
is_call (Call b) = true
is_call _ = false

-- the costs of the next place and of a target together: at a call a run comes to both, and else to one of them
abbrev pub together : Bool → ℕ → ℕ → ℕ
together true a b = a + b
together false a b = max a b

abbrev pub next_cost : Bool → ℕ → (ℕ → ℕ) → ℕ
next_cost true p cost = cost (p + 1)
next_cost false p cost = 0

abbrev pub target_cost : Option ℕ → (ℕ → ℕ) → ℕ
target_cost None cost = 0
target_cost (Some q) cost = cost q

-- the cost in steps of an operation at place p, by the costs of its successors: at a call their sum and 1, and else the
-- greater and 1
abbrev pub cost_by : Program → (ℕ → ℕ) → ℕ → Operation → ℕ
cost_by program cost p o = 1 + together (is_call o) (next_cost (goes_on o) p cost) (target_cost (target program o) cost)

-- the costs in steps of the reached places
abbrev pub AreCosts : Program → (ℕ → ℕ) → Type 0
AreCosts program cost = (p : ℕ) (o : Operation) → IsReached program p → slice_get program.code p ≡ Some o →
    cost p ≡ cost_by program cost p o

-- the budget covers, in version 1, the places of each path from place 0, and in version 2 the cost of place 0
abbrev pub Suffices : Program → Option (List ℕ) → Type 0
Suffices program None = (n q : ℕ) → Path program n q → q < length program.code → n + 1 ≤ program.budget
Suffices program (Some firsts) = (cost : ℕ → ℕ) × AreCosts program cost × (cost 0 ≤ program.budget)

-- the budget is 1 to 65,535, or in version 2 to 1,000,000, and suffices
pub record IsWithin (program : Program) : Type 0 where
  pub least : 1 ≤ program.budget
  pub most : program.budget ≤ greatest_budget program.procedures
  pub enough : Suffices program program.procedures

-- a program that may run
pub record IsWell (program : Program) : Type 0 where
  pub in_range : AreInRange program
  pub forward : GoesForward program
  pub shaped : HasShapes program
  pub inside : StaysInside program
  pub within : IsWithin program

-- The first rule that is broken gives the fault. Memory is taken only once all operations are in range.
abbrev pub Fails : VerifyFault → Program → Type 0
Fails NoMemory p = AreInRange p
Fails Operand p = AreInRange p → ⊥
Fails Backward p = AreInRange p × (GoesForward p → ⊥)
Fails Stack p = AreInRange p × GoesForward p × (HasShapes p → ⊥)
Fails RunsOff p = AreInRange p × GoesForward p × HasShapes p × (StaysInside p → ⊥)
Fails Budget p = AreInRange p × GoesForward p × HasShapes p × StaysInside p × (IsWithin p → ⊥)

-- the numbers by which faults are reported
abbrev pub verify_number : VerifyFault → ℕ
verify_number Operand = 62
verify_number Backward = 63
verify_number Stack = 64
verify_number RunsOff = 65
verify_number Budget = 66
verify_number NoMemory = 99
