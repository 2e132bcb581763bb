-- The rules before there were procedures, each word for word. No other definition cites them. They stand here so that a
-- law can say that they still decide each version 1 image. Three lines are new: calls and returns, which version 1 does
-- not have, are out of range, and leave no shape.
use Rattle.std.specs.Prelude.{◌≡◌, ℕ, zero, suc, ◌+◌, ◌≤◌, ◌<◌, ◌^◌, List, [], ◌∷◌, length, Option, Some, None, Bool, true, false, slice_get, All, ◌⊎◌}
use Rattle.filing_image.specs.Program.{Program}
use Rattle.filing_image.specs.declared.instruction.Operation.{Operation}
use Rattle.filing_image.specs.declared.instruction.Operation.TheVariants.{PushTrue, PushFalse, Not, Values, Join, Match, Pop, Exists, Size, Number, Less, Jump, JumpIf, JumpUnless, Marked, Mark, File, Keep, Discard, Stop, Fault, Call, Return}
use Rattle.filing_verify.specs.declared.kind.Kind.{Kind}
use Rattle.filing_verify.specs.declared.kind.Kind.TheVariants.{Truth, Texts, Count}
use Rattle.filing_verify.specs.declared.fault.VerifyFault.{VerifyFault}
use Rattle.filing_verify.specs.declared.fault.VerifyFault.TheVariants.{NoMemory, Operand, Backward, Stack, RunsOff, Budget}

-- the place that a jump names
abbrev pub target : Operation → Option ℕ
target (Jump b) = Some b
target (JumpIf b) = Some b
target (JumpUnless b) = Some b
target _ = None

-- whether the run may go on to the next place
abbrev pub goes_on : Operation → Bool
goes_on (Jump b) = false
goes_on Stop = false
goes_on (Fault a) = false
goes_on _ = true

-- In this program the run may go from the operation at place p to place q.
abbrev pub Follows : Program → Operation → ℕ → ℕ → Type 0
Follows program o p q = ((goes_on o ≡ true) × (q ≡ p + 1)) ⊎ (target o ≡ Some q)

-- Place q is a successor of place p.
abbrev pub Leads : Program → ℕ → ℕ → Type 0
Leads program p q = (o : Operation) × (slice_get program.code p ≡ Some o) × Follows program o p q

-- A path of n successors leads from place 0 to q: it has n + 1 places.
abbrev pub Path : Program → ℕ → ℕ → Type 0
Path program zero q = q ≡ 0
Path program (suc n) q = (p : ℕ) × Path program n p × Leads program p q

-- Some path leads from place 0 to q.
abbrev pub IsReached : Program → ℕ → Type 0
IsReached program q = (n : ℕ) × Path program n q

-- the kinds after the operation, or None where it does not find its operands
abbrev pub after : Operation → List Kind → Option (List Kind)
after PushTrue ks = Some (Truth ∷ ks)
after PushFalse ks = Some (Truth ∷ ks)
after Not (Truth ∷ ks) = Some (Truth ∷ ks)
after Not _ = None
after (Values b) ks = Some (Texts ∷ ks)
after Join (Texts ∷ Texts ∷ ks) = Some (Texts ∷ ks)
after Join _ = None
after (Match a b) (Texts ∷ ks) = Some (Truth ∷ Texts ∷ ks)
after (Match a b) _ = None
after Pop (k ∷ ks) = Some ks
after Pop _ = None
after (Exists b) ks = Some (Truth ∷ ks)
after Size ks = Some (Count ∷ ks)
after (Number b) ks = Some (Count ∷ ks)
after Less (Count ∷ Count ∷ ks) = Some (Truth ∷ ks)
after Less _ = None
after (Jump b) ks = Some ks
after (JumpIf b) (Truth ∷ ks) = Some ks
after (JumpIf b) _ = None
after (JumpUnless b) (Truth ∷ ks) = Some ks
after (JumpUnless b) _ = None
after (Marked b) ks = Some (Truth ∷ ks)
after (Mark b) ks = Some ks
after (File a b) ks = Some ks
after Keep ks = Some ks
after Discard ks = Some ks
after Stop ks = Some ks
after (Fault a) ks = Some ks
after _ ks = None

-- The operation at p finds its operands, each successor that is a place has the shape that it leaves, and neither
-- shape is deeper than 32.
pub record IsFine (program : Program) (shape : ℕ → List Kind) (p : ℕ) (o : Operation) : Type 0 where
  pub result : List Kind
  pub finds : after o (shape p) ≡ Some result
  pub shallow : length (shape p) ≤ 32
  pub shallow_after : length result ≤ 32
  pub passed_on : (q : ℕ) → Follows program o p q → q < length program.code → shape q ≡ result

-- Place 0 has the empty shape, and each operation that is reached is fine.
pub record IsAssignment (program : Program) (shape : ℕ → List Kind) : Type 0 where
  pub start : shape 0 ≡ []
  pub each : (p : ℕ) (o : Operation) → IsReached program p → slice_get program.code p ≡ Some o → IsFine program shape p o

-- some assignment of shapes to the places that are reached
abbrev pub HasShapes : Program → Type 0
HasShapes program = (shape : ℕ → List Kind) × IsAssignment program shape

-- each operand names something that exists, or has one of its values: for Match, 0 to 5 are the comparisons; for File,
-- 1 is a copy; for Fault, 2 to 5 are the faults
abbrev pub InRange : Program → Operation → Type 0
InRange p (Values b) = b < length p.texts
InRange p (Match a b) = (a ≤ 5) × (b < length p.texts)
InRange p (Exists b) = b < length p.texts
InRange p (Number b) = b < length p.numbers
InRange p (Jump b) = b < length p.code
InRange p (JumpIf b) = b < length p.code
InRange p (JumpUnless b) = b < length p.code
InRange p (Marked b) = b < p.slots
InRange p (Mark b) = b < p.slots
InRange p (File a b) = (a ≤ 1) × (b < length p.texts)
InRange p (Fault a) = (2 ≤ a) × (a ≤ 5)
InRange p (Call b) = ⊥
InRange p Return = ⊥
InRange p _ = Unit {0}

-- at most 64 slots, and each operation, reached or not, in range
pub record AreInRange (p : Program) : Type 0 where
  pub slots : p.slots ≤ 64
  pub each : All (InRange p) p.code

-- each reached jump goes to a greater place
abbrev pub GoesForward : Program → Type 0
GoesForward program = (p q : ℕ) (o : Operation) → IsReached program p → slice_get program.code p ≡ Some o →
    target o ≡ Some q → p < q

-- there is a place, and no reached place leads to the one past the end
pub record StaysInside (program : Program) : Type 0 where
  pub some : 0 < length program.code
  pub inside : (p : ℕ) → IsReached program p → Leads program p (length program.code) → ⊥

-- the budget is 1 to 65,535, and no path of successors from place 0 has more places than it
pub record IsWithin (program : Program) : Type 0 where
  pub least : 1 ≤ program.budget
  pub most : program.budget < 2 ^ 16
  pub paths : (n q : ℕ) → Path program n q → q < length program.code → n + 1 ≤ program.budget

-- a program that may run
pub record IsWell (program : Program) : Type 0 where
  pub in_range : AreInRange program
  pub forward : GoesForward program
  pub shaped : HasShapes program
  pub inside : StaysInside program
  pub within : IsWithin program

-- The first rule that is broken gives the fault. Memory is taken only once all operations are in range.
abbrev pub Fails : VerifyFault → Program → Type 0
Fails NoMemory p = AreInRange p
Fails Operand p = AreInRange p → ⊥
Fails Backward p = AreInRange p × (GoesForward p → ⊥)
Fails Stack p = AreInRange p × GoesForward p × (HasShapes p → ⊥)
Fails RunsOff p = AreInRange p × GoesForward p × HasShapes p × (StaysInside p → ⊥)
Fails Budget p = AreInRange p × GoesForward p × HasShapes p × StaysInside p × (IsWithin p → ⊥)
