-- The kinds of the stack's entries before and after code in blocks, the topmost first. Code that has a type finds its
-- operands, and never makes the stack deeper than 32.
use Rattle.std.specs.Prelude.{◌≡◌, ℕ, zero, suc, ◌≤◌, List, [], ◌∷◌, length, Option, Some, None}
use Rattle.filing_verify.specs.declared.kind.Kind.{Kind}
use Rattle.filing_verify.specs.declared.kind.Kind.TheVariants.{Truth, Texts, Count}
use Rattle.filing_flow.specs.Structure.{Action, Push, Negate, ValuesOf, JoinTwo, MatchKey, Drop, HasField, PushSize, PushNumber, IsLess, IsMarked, SetMark, FileInto, SetKept, SetCancelled, End, Fail, CallTo, Flow, nothing, action, sequence, block, leave, leave_if}

abbrev pub Shape : Type 0
Shape = List Kind

-- the kinds after the operation, or None where it does not find its operands
abbrev pub action_after : Action → Shape → Option Shape
action_after (Push b) ks = Some (Truth ∷ ks)
action_after Negate (Truth ∷ ks) = Some (Truth ∷ ks)
action_after Negate _ = None
action_after (ValuesOf name) ks = Some (Texts ∷ ks)
action_after JoinTwo (Texts ∷ Texts ∷ ks) = Some (Texts ∷ ks)
action_after JoinTwo _ = None
action_after (MatchKey a key) (Texts ∷ ks) = Some (Truth ∷ Texts ∷ ks)
action_after (MatchKey a key) _ = None
action_after Drop (k ∷ ks) = Some ks
action_after Drop _ = None
action_after (HasField name) ks = Some (Truth ∷ ks)
action_after PushSize ks = Some (Count ∷ ks)
action_after (PushNumber n) ks = Some (Count ∷ ks)
action_after IsLess (Count ∷ Count ∷ ks) = Some (Truth ∷ ks)
action_after IsLess _ = None
action_after (IsMarked b) ks = Some (Truth ∷ ks)
action_after (SetMark b) ks = Some ks
action_after (FileInto a path) ks = Some ks
action_after SetKept ks = Some ks
action_after SetCancelled ks = Some ks
action_after End ks = Some ks
action_after (Fail fault) ks = Some ks
action_after (CallTo b) [] = Some []
action_after (CallTo b) _ = None

-- the shape at the end of the block around that has this number
abbrev pub shape_at : List Shape → ℕ → Option Shape
shape_at [] n = None
shape_at (k ∷ ks) zero = Some k
shape_at (k ∷ ks) (suc n) = shape_at ks n

-- From shape i the code reaches its end with shape o, and the ends of the blocks around it with their shapes, the
-- innermost first.
abbrev pub HasType : Flow → List Shape → (i o : Shape) → Type 0
HasType nothing es i o = i ≡ o
HasType (action x) es i o = (action_after x i ≡ Some o) × (length i ≤ 32) × (length o ≤ 32)
HasType (sequence a b) es i o = (m : Shape) × HasType a es i m × HasType b es m o
HasType (block a) es i o = HasType a (o ∷ es) i o
HasType (leave n) es i o = (length i ≤ 32) × (shape_at es n ≡ Some i)
HasType (leave_if t n) es i o = (i ≡ Truth ∷ o) × (length o ≤ 31) × (shape_at es n ≡ Some o)
