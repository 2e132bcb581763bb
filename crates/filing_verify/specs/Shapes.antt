-- What an operation does to the kinds of a stack's entries, the topmost first.
use Rattle.std.specs.Prelude.{◌≡◌, ℕ, ◌≤◌, ◌<◌, List, [], ◌∷◌, length, Option, Some, None, slice_get}
use Rattle.filing_image.specs.Program.{Program}
use Rattle.filing_image.specs.declared.instruction.Operation.{Operation}
use Rattle.filing_image.specs.declared.instruction.Operation.TheVariants.{PushTrue, PushFalse, Not, Values, Join, Match, Pop, Exists, Size, Number, Less, Jump, JumpIf, JumpUnless, Marked, Mark, File, Keep, Discard, Stop, Fault, Call, Return}
use Rattle.filing_verify.specs.declared.kind.Kind.{Kind}
use Rattle.filing_verify.specs.declared.kind.Kind.TheVariants.{Truth, Texts, Count}
use Rattle.filing_verify.specs.Flow.{Follows, IsReached}

-- the kinds after the operation, or None where it does not find its operands
abbrev pub after : Operation → List Kind → Option (List Kind)
after PushTrue ks = Some (Truth ∷ ks)
after PushFalse ks = Some (Truth ∷ ks)
after Not (Truth ∷ ks) = Some (Truth ∷ ks)
after Not _ = None
after (Values b) ks = Some (Texts ∷ ks)
after Join (Texts ∷ Texts ∷ ks) = Some (Texts ∷ ks)
after Join _ = None
after (Match a b) (Texts ∷ ks) = Some (Truth ∷ Texts ∷ ks)
after (Match a b) _ = None
after Pop (k ∷ ks) = Some ks
after Pop _ = None
after (Exists b) ks = Some (Truth ∷ ks)
after Size ks = Some (Count ∷ ks)
after (Number b) ks = Some (Count ∷ ks)
after Less (Count ∷ Count ∷ ks) = Some (Truth ∷ ks)
after Less _ = None
after (Jump b) ks = Some ks
after (JumpIf b) (Truth ∷ ks) = Some ks
after (JumpIf b) _ = None
after (JumpUnless b) (Truth ∷ ks) = Some ks
after (JumpUnless b) _ = None
after (Marked b) ks = Some (Truth ∷ ks)
after (Mark b) ks = Some ks
after (File a b) ks = Some ks
after Keep ks = Some ks
after Discard ks = Some ks
after Stop ks = Some ks
after (Fault a) ks = Some ks
after (Call b) [] = Some []
after (Call b) _ = None
after Return [] = Some []
after Return _ = None

-- The operation at p finds its operands, each successor that is a place has the shape that it leaves, and neither
-- shape is deeper than 32.
pub record IsFine (program : Program) (shape : ℕ → List Kind) (p : ℕ) (o : Operation) : Type 0 where
  pub result : List Kind
  pub finds : after o (shape p) ≡ Some result
  pub shallow : length (shape p) ≤ 32
  pub shallow_after : length result ≤ 32
  pub passed_on : (q : ℕ) → Follows program o p q → q < length program.code → shape q ≡ result

-- Place 0 has the empty shape, and each operation that is reached is fine.
pub record IsAssignment (program : Program) (shape : ℕ → List Kind) : Type 0 where
  pub start : shape 0 ≡ []
  pub each : (p : ℕ) (o : Operation) → IsReached program p → slice_get program.code p ≡ Some o → IsFine program shape p o

-- some assignment of shapes to the places that are reached
abbrev pub HasShapes : Program → Type 0
HasShapes program = (shape : ℕ → List Kind) × IsAssignment program shape
