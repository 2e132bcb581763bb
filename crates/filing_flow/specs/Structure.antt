-- Code in blocks: code without places, as in WebAssembly. A jump names how many blocks it leaves, and goes to the end
-- of the last of them, so that it goes forward.
use Rattle.std.specs.Prelude.{ℕ, ◌+◌, ◌<◌, ◌≤◌, List, Bool}
use Rattle.sieve_meaning.specs.declared.run_fault.RunFault.{RunFault}
use Rattle.sieve_meaning.specs.RunFaults.{number_of}

-- one operation other than a jump, with the text or number that it names in place of an operand
pub data Action : Type 0 where
  -- pushes a truth value
  Push : Bool → Action
  -- negates the truth value on the top
  Negate : Action
  -- pushes the values of the fields of a name
  ValuesOf : List ℕ → Action
  -- replaces the two lists on the top by one
  JoinTwo : Action
  -- pushes whether a value of the list on the top matches a key, by the number of the comparison
  MatchKey : ℕ → List ℕ → Action
  -- pops an entry
  Drop : Action
  -- pushes whether a field of a name is there
  HasField : List ℕ → Action
  -- pushes the size of the message in octets
  PushSize : Action
  PushNumber : ℕ → Action
  -- replaces the two numbers on the top by whether the one pushed first is less
  IsLess : Action
  -- pushes whether a slot is set
  IsMarked : ℕ → Action
  SetMark : ℕ → Action
  -- files under a path: 0 cancels the implicit keep, and 1 is a copy
  FileInto : ℕ → List ℕ → Action
  SetKept : Action
  SetCancelled : Action
  -- ends the run
  End : Action
  -- ends the run with a fault
  Fail : RunFault → Action
  -- runs the procedure with this number, and goes on after it
  CallTo : ℕ → Action

pub data Flow : Type 0 where
  nothing : Flow
  action : Action → Flow
  -- the first part, and then the second
  sequence : Flow → Flow → Flow
  -- a jump out of it goes to its end
  block : Flow → Flow
  -- jumps to the end of the block around that has this number; the innermost has 0
  leave : ℕ → Flow
  -- pops the truth value on the top, and jumps likewise where it is this one
  leave_if : Bool → ℕ → Flow

-- the number of operations
abbrev pub size : Flow → ℕ
size nothing = 0
size (action o) = 1
size (sequence a b) = size a + size b
size (block a) = size a
size (leave n) = 1
size (leave_if t n) = 1

-- what operands may name: slots below a number, and procedures after one and below a number
pub record Bounds : Type 0 where
  pub slots : ℕ
  pub own : ℕ
  pub procedures : ℕ

-- of a program with this number of slots and no procedures
abbrev pub without_procedures : ℕ → Bounds
without_procedures slots = record { slots = slots; own = 0; procedures = 0 }

-- the operands are within the bounds
abbrev pub IsSoundAction : Bounds → Action → Type 0
IsSoundAction bounds (MatchKey a key) = a ≤ 5
IsSoundAction bounds (IsMarked b) = b < bounds.slots
IsSoundAction bounds (SetMark b) = b < bounds.slots
IsSoundAction bounds (FileInto a path) = a ≤ 1
IsSoundAction bounds (Fail fault) = 2 ≤ number_of fault
IsSoundAction bounds (CallTo b) = (bounds.own < b) × (b < bounds.procedures)
IsSoundAction bounds _ = Unit {0}

abbrev pub IsSound : Bounds → Flow → Type 0
IsSound bounds nothing = Unit {0}
IsSound bounds (action o) = IsSoundAction bounds o
IsSound bounds (sequence a b) = IsSound bounds a × IsSound bounds b
IsSound bounds (block a) = IsSound bounds a
IsSound bounds (leave n) = Unit {0}
IsSound bounds (leave_if t n) = Unit {0}
