-- The operations that encode code in blocks, in a program, from a place on. An operation names a text or a number by
-- its place in the lists of the program.
use Rattle.std.specs.Prelude.{◌≡◌, ℕ, zero, suc, ◌+◌, List, [], ◌∷◌, Bool, true, false, Some, slice_get}
use Rattle.filing_image.specs.declared.instruction.Operation.{Operation}
use Rattle.filing_image.specs.declared.instruction.Operation.TheVariants.{PushTrue, PushFalse, Not, Values, Join, Match, Pop, Exists, Size, Number, Less, Jump, JumpIf, JumpUnless, Marked, Mark, File, Keep, Discard, Stop, Fault, Call}
use Rattle.sieve_meaning.specs.RunFaults.{number_of}
use Rattle.filing_flow.specs.Structure.{Action, Push, Negate, ValuesOf, JoinTwo, MatchKey, Drop, HasField, PushSize, PushNumber, IsLess, IsMarked, SetMark, FileInto, SetKept, SetCancelled, End, Fail, CallTo, Flow, nothing, action, sequence, block, leave, leave_if, size}

-- which text, and which number, an operand names
pub record Operands : Type 1 where
  pub text : ℕ → List ℕ → Type 0
  pub number : ℕ → ℕ → Type 0

-- an operand is a place in these lists
abbrev pub places_in : (texts : List (List ℕ)) → (numbers : List ℕ) → Operands
places_in texts numbers = record { text = λ b t. slice_get texts b ≡ Some t; number = λ b n. slice_get numbers b ≡ Some n }

-- The operation encodes the action. Which of equal texts it names is left open.
abbrev pub IsWritten : Operands → Action → Operation → Type 0
IsWritten n (Push true) o = o ≡ PushTrue
IsWritten n (Push false) o = o ≡ PushFalse
IsWritten n Negate o = o ≡ Not
IsWritten n (ValuesOf name) o = (b : ℕ) × (o ≡ Values b) × n.text b name
IsWritten n JoinTwo o = o ≡ Join
IsWritten n (MatchKey a key) o = (b : ℕ) × (o ≡ Match a b) × n.text b key
IsWritten n Drop o = o ≡ Pop
IsWritten n (HasField name) o = (b : ℕ) × (o ≡ Exists b) × n.text b name
IsWritten n PushSize o = o ≡ Size
IsWritten n (PushNumber k) o = (b : ℕ) × (o ≡ Number b) × n.number b k
IsWritten n IsLess o = o ≡ Less
IsWritten n (IsMarked b) o = o ≡ Marked b
IsWritten n (SetMark b) o = o ≡ Mark b
IsWritten n (FileInto a path) o = (b : ℕ) × (o ≡ File a b) × n.text b path
IsWritten n SetKept o = o ≡ Keep
IsWritten n SetCancelled o = o ≡ Discard
IsWritten n End o = o ≡ Stop
IsWritten n (Fail fault) o = o ≡ Fault (number_of fault)
IsWritten n (CallTo b) o = o ≡ Call b

-- the end of the block around that has this number, where the ends are listed from the innermost block on
abbrev pub end_at : List ℕ → ℕ → ℕ
end_at [] n = 0
end_at (e ∷ es) zero = e
end_at (e ∷ es) (suc n) = end_at es n

-- a jump where the truth value on the top is this one
abbrev pub jump_when : Bool → ℕ → Operation
jump_when true b = JumpIf b
jump_when false b = JumpUnless b

-- These operations encode the code from a place on, where the blocks around it have these ends.
abbrev pub Stands : Operands → List Operation → Flow → (ends : List ℕ) → (place : ℕ) → Type 0
Stands n os nothing ends place = Unit {0}
Stands n os (action x) ends place = (o : Operation) × (slice_get os place ≡ Some o) × IsWritten n x o
Stands n os (sequence a b) ends place = Stands n os a ends place × Stands n os b ends (place + size a)
Stands n os (block a) ends place = Stands n os a ((place + size a) ∷ ends) place
Stands n os (leave k) ends place = slice_get os place ≡ Some (Jump (end_at ends k))
Stands n os (leave_if t k) ends place = slice_get os place ≡ Some (jump_when t (end_at ends k))
