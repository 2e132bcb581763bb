-- Jumps to the end of a block, as long as that end is not known.
use Rattle.std.specs.Prelude.{◌≡◌, ℕ, List, [], ◌∷◌, ◌++◌, map, take, drop, nat_eq, if◌then◌else◌}
use Rattle.std.specs.Vec.{with_item}
use Rattle.filing_image.specs.declared.instruction.Operation.{Operation}
use Rattle.filing_image.specs.declared.instruction.Operation.TheVariants.{Jump, JumpIf, JumpUnless}
use Rattle.filing_gen.specs.declared.output.Output.{Output}

-- the place of such a jump as long as the end is not known
abbrev pub no_place : ℕ
no_place = 65535

-- a place, or the end where it is not known
abbrev pub place_or : (end place : ℕ) → ℕ
place_or end place = if nat_eq place no_place then end else place

-- an operation, where a jump to a place that is not known goes to the end
abbrev pub with_end : (end : ℕ) → Operation → Operation
with_end end (Jump place) = Jump (place_or end place)
with_end end (JumpIf place) = JumpIf (place_or end place)
with_end end (JumpUnless place) = JumpUnless (place_or end place)
with_end end operation = operation

-- the output with another operation at a place
abbrev pub with_operation : Output → (place : ℕ) → Operation → Output
with_operation o place operation = record o { code = with_item o.code place operation }

-- the output whose jumps at these places go to an end
abbrev pub with_jumps : (end : ℕ) → (places : List ℕ) → Output → Output
with_jumps end [] o = o
with_jumps end (p ∷ ps) o = with_operation (with_jumps end ps o) p (Jump end)

-- The jumps to places that were not known, of what was written from a place on, go to this end.
pub record IsEnded (start end : ℕ) (old new : Output) : Type 0 where
  pub code : new.code.items ≡ take start old.code.items ++ map (with_end end) (drop start old.code.items)
  pub texts : new.texts ≡ old.texts
  pub numbers : new.numbers ≡ old.numbers
