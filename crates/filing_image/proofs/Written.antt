-- An instruction with no operation is in no image.
use Rattle.std.proofs.Common.{◌≡◌, ◌≢◌, ℕ, ◌<◌, List, length, get_or, map, All, sym, ap, ◌∙◌, subst, arith}
use Rattle.std.proofs.lemmas.List.{get_or-map, length-map}
use Rattle.filing_image.specs.declared.instruction.Instruction.{Instruction}
use Rattle.filing_image.specs.declared.instruction.Operation.{Operation}
use Rattle.filing_image.specs.declared.instruction.Operation.TheVariants.{Stop}
use Rattle.filing_image.specs.Program.{instruction_of}

pub no_code : (is : List Instruction) (k : ℕ) (d : Instruction) → k < length is
    → ((o : Operation) → instruction_of o ≢ get_or is k d) → (code : List Operation) → map instruction_of code ≡ is → ⊥
no_code is k d lt none code e =
    let n : k < length code = omega (arith, ap length e, length-map code instruction_of) in
    none (get_or code k Stop) (sym (get_or-map instruction_of code k Stop d n) ∙ ap (λ (l : List Instruction). get_or l k d) e)

-- what holds of each f x
pub All-of_map : {X Y : Type 0} (P : X → Type 0) (f : Y → X) (ys : List Y) → All P (map f ys) → All (λ y. P (f y)) ys
All-of_map P f ys all k d lt =
    let e : get_or (map f ys) k (f d) ≡ f (get_or ys k d) = get_or-map f ys k d (f d) lt in
    subst P e (all k (f d) (omega (arith, length-map ys f)))
