-- Code among operations is also among others that are the same there.
use Rattle.std.proofs.Common.{◌≡◌, ℕ, ◌+◌, ◌≤◌, List, ◌∷◌, true, false, Some, arith}
use Rattle.std.specs.Prelude.{slice_get}
use Rattle.filing_image.specs.declared.instruction.Operation.{Operation}
use Rattle.filing_flow.specs.Structure.{Action, Push, Negate, ValuesOf, JoinTwo, MatchKey, Drop, HasField, PushSize}
use Rattle.filing_flow.specs.Structure.{PushNumber, IsLess, IsMarked, SetMark, FileInto, SetKept, SetCancelled, End}
use Rattle.filing_flow.specs.Structure.{Fail, CallTo, Flow, nothing, action, sequence, block, leave, leave_if, size}
use Rattle.filing_flow.specs.Code.{Operands, IsWritten, Stands}

-- what an operand names, it names there too
pub record Named (n m : Operands) : Type 0 where
  pub text : (b : ℕ) (t : List ℕ) → n.text b t → m.text b t
  pub number : (b k : ℕ) → n.number b k → m.number b k

pub named_same : (n : Operands) → Named n n
named_same n = record { text = λ b t h. h; number = λ b k h. h }

pub named_then : (n m o : Operands) → Named n m → Named m o → Named n o
named_then n m o a b = record { text = λ p t h. b.text p t (a.text p t h); number = λ p k h. b.number p k (a.number p k h) }

-- the operations from a place on are there too
abbrev pub SameFrom : ℕ → List Operation → List Operation → Type 0
SameFrom low os ps = (i : ℕ) (o : Operation) → low ≤ i → slice_get os i ≡ Some o → slice_get ps i ≡ Some o

module _ (n m : Operands) (named : Named n m) where
  pub written_there : (x : Action) (o : Operation) → IsWritten n x o → IsWritten m x o
  written_there (Push true) o w = w
  written_there (Push false) o w = w
  written_there Negate o w = w
  written_there (ValuesOf name) o (b, is, t) = (b, is, named.text b name t)
  written_there JoinTwo o w = w
  written_there (MatchKey a key) o (b, is, t) = (b, is, named.text b key t)
  written_there Drop o w = w
  written_there (HasField name) o (b, is, t) = (b, is, named.text b name t)
  written_there PushSize o w = w
  written_there (PushNumber k) o (b, is, t) = (b, is, named.number b k t)
  written_there IsLess o w = w
  written_there (IsMarked b) o w = w
  written_there (SetMark b) o w = w
  written_there (FileInto a path) o (b, is, t) = (b, is, named.text b path t)
  written_there SetKept o w = w
  written_there SetCancelled o w = w
  written_there End o w = w
  written_there (Fail fault) o w = w
  written_there (CallTo b) o w = w

  pub stands_there : (os ps : List Operation) (low : ℕ) → SameFrom low os ps → (a : Flow) (ends : List ℕ) (place : ℕ)
      → low ≤ place → Stands n os a ends place → Stands m ps a ends place
  stands_there os ps low same nothing ends place le h = tt
  stands_there os ps low same (action x) ends place le (o, at, w) = (o, same place o le at, written_there x o w)
  stands_there os ps low same (sequence a b) ends place le h =
      (stands_there os ps low same a ends place le h.0, stands_there os ps low same b ends (place + size a) (omega (arith, le)) h.1)
  stands_there os ps low same (block a) ends place le h = stands_there os ps low same a ((place + size a) ∷ ends) place le h
  stands_there os ps low same (leave k) ends place le h = same place _ le h
  stands_there os ps low same (leave_if t k) ends place le h = same place _ le h
