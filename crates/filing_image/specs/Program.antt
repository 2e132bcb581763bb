-- Filing programs, and their parts as an image encodes them.
use Rattle.std.specs.Prelude.{ℕ, List, [], map, Vec, Option, Some, None, option_map}
use Rattle.std.specs.declared.alloc.Global.{Global}
use Rattle.filing_image.specs.declared.instruction.Instruction.{Instruction}
use Rattle.filing_image.specs.declared.instruction.Operation.{Operation}
use Rattle.filing_image.specs.declared.instruction.Operation.TheVariants.{PushTrue, PushFalse, Not, Values, Join, Match, Pop, Exists, Size, Number, Less, Jump, JumpIf, JumpUnless, Marked, Mark, File, Keep, Discard, Stop, Fault, Call, Return}
use Rattle.filing_image.specs.declared.version.Version.{Version}
use Rattle.filing_image.specs.declared.version.Version.TheVariants.{One, Two}

-- an instruction: the number of its operation, and the operands, 0 where the operation has none
abbrev pub instruction : ℕ → ℕ → ℕ → Instruction
instruction op a b = record { op = op; a = a; b = b }

-- the instruction that encodes each operation
abbrev pub instruction_of : Operation → Instruction
instruction_of PushTrue = instruction 1 0 0
instruction_of PushFalse = instruction 2 0 0
instruction_of Not = instruction 3 0 0
instruction_of (Values b) = instruction 4 0 b
instruction_of Join = instruction 5 0 0
instruction_of (Match a b) = instruction 6 a b
instruction_of Pop = instruction 7 0 0
instruction_of (Exists b) = instruction 8 0 b
instruction_of Size = instruction 9 0 0
instruction_of (Number b) = instruction 10 0 b
instruction_of Less = instruction 11 0 0
instruction_of (Jump b) = instruction 12 0 b
instruction_of (JumpIf b) = instruction 13 0 b
instruction_of (JumpUnless b) = instruction 14 0 b
instruction_of (Marked b) = instruction 15 0 b
instruction_of (Mark b) = instruction 16 0 b
instruction_of (File a b) = instruction 17 a b
instruction_of Keep = instruction 18 0 0
instruction_of Discard = instruction 19 0 0
instruction_of Stop = instruction 20 0 0
instruction_of (Fault a) = instruction 21 a 0
instruction_of (Call b) = instruction 22 0 b
instruction_of Return = instruction 23 0 0

-- a filing program: its budget in steps, the texts and numbers that its operations name, the number of its slots, in
-- version 2 the first place of each of its procedures (none in version 1), and its code
pub record Program : Type 0 where
  pub budget : ℕ
  pub texts : List (List ℕ)
  pub numbers : List ℕ
  pub slots : ℕ
  pub procedures : Option (List ℕ)
  pub code : List Operation

-- a program with its code as instructions
pub record Parts : Type 0 where
  pub budget : ℕ
  pub texts : List (List ℕ)
  pub numbers : List ℕ
  pub slots : ℕ
  pub procedures : Option (List ℕ)
  pub instructions : List Instruction

abbrev pub parts : Program → Parts
parts p = record { budget = p.budget; texts = p.texts; numbers = p.numbers; slots = p.slots; procedures = p.procedures; instructions = map instruction_of p.code }

-- the version of the format: procedures are in version 2 alone
abbrev pub version_of : Option (List ℕ) → Version
version_of None = One
version_of (Some firsts) = Two

-- the first places of these procedures, in order
abbrev pub firsts_of : Option (List ℕ) → List ℕ
firsts_of None = []
firsts_of (Some firsts) = firsts

-- the first places of a program's procedures, in order
abbrev pub first_places : Program → List ℕ
first_places p = firsts_of p.procedures

-- the list that each holds
abbrev pub list_in : Option (Vec ℕ Global) → Option (List ℕ)
list_in firsts = option_map (λ v. v.items) firsts

-- the parts of a program from the vectors that hold them
abbrev pub parts_from : (budget : ℕ) (texts : List (Vec ℕ Global)) (numbers : List ℕ) (slots : ℕ)
    (procedures : Option (List ℕ)) (instructions : List Instruction) → Parts
parts_from budget texts numbers slots procedures instructions = record { budget = budget; texts = map (λ t. t.items) texts; numbers = numbers; slots = slots; procedures = procedures; instructions = instructions }

-- a program from the vectors that hold its parts
abbrev pub program_from : (budget : ℕ) (texts : List (Vec ℕ Global)) (numbers : List ℕ) (slots : ℕ)
    (procedures : Option (List ℕ)) (code : List Operation) → Program
program_from budget texts numbers slots procedures code = record { budget = budget; texts = map (λ t. t.items) texts; numbers = numbers; slots = slots; procedures = procedures; code = code }
