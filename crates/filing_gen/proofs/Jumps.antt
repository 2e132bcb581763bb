-- Operations that were written in the place of others.
use Rattle.std.proofs.Common.{◌≡◌, ℕ, zero, suc, ◌<◌, List, [], ◌∷◌, ◌++◌, length, set, refl, sym, ap, ◌∙◌, subst, arith}
use Rattle.std.specs.Prelude.{slice_get}
use Rattle.std.specs.List.{All}
use Rattle.std.proofs.Math.Seq.{set-append_seam}
use Rattle.std.proofs.lemmas.List.{length-set, set-append_left}
use Rattle.std.proofs.lemmas.List.Elements.{All-head, All-tail}
use Rattle.filing_image.specs.declared.instruction.Operation.{Operation}
use Rattle.filing_image.specs.declared.instruction.Operation.TheVariants.{Jump}
use Rattle.filing_flow.specs.Structure.{Flow}
use Rattle.filing_flow.specs.Code.{Stands}
use Rattle.filing_flow.proofs.Stands.{named_same, stands_there}
use Rattle.filing_gen.specs.declared.output.Output.{Output}
use Rattle.filing_gen.specs.Adds.{operands_of, Puts, Emits}
use Rattle.filing_gen.specs.Ends.{with_operation, with_jumps}

-- the last operation
pub placed : (x y : Output) (was is : Operation) → Puts x y was → Puts x (with_operation y (length x.code.items) is) is
placed x y was is h = record {
  texts = h.texts;
  numbers = h.numbers;
  code = ap (λ (l : List Operation). set l (length x.code.items) is) h.code ∙ set-append_seam x.code.items was [] is;
}

get_after : {A : Type 0} (xs : List A) (p i : ℕ) (x : A) → p < i → slice_get (set xs p x) i ≡ slice_get xs i
get_after [] p i x lt = refl
get_after (y ∷ xs) zero zero x lt = absurd (omega (arith, lt))
get_after (y ∷ xs) zero (suc i) x lt = refl
get_after (y ∷ xs) (suc p) zero x lt = absurd (omega (arith, lt))
get_after (y ∷ xs) (suc p) (suc i) x lt = get_after xs p i x (omega (arith, lt))

-- an operation before what was added
pub emits_under : (x y : Output) (a : Flow) (ends : List ℕ) (p : ℕ) (o : Operation) → p < length x.code.items
    → Emits x y a ends → Emits (with_operation x p o) (with_operation y p o) a ends
emits_under x y a ends p o lt h =
    let os = set y.code.items p o in
    let low : length (set x.code.items p o) ≡ length x.code.items = length-set x.code.items p o in
    record {
      keeps = record { text = h.keeps.text; number = h.keeps.number; texts = h.keeps.texts; numbers = h.keeps.numbers };
      added = h.added;
      code = ap (λ (l : List Operation). set l p o) h.code ∙ set-append_left x.code.items h.added p o lt;
      long = h.long;
      stands = subst (λ (n : ℕ). Stands (operands_of y) os a ends n) (sym low)
          (stands_there (operands_of y) (operands_of y) (named_same (operands_of y)) y.code.items os
          (length x.code.items) (λ i k le at. get_after y.code.items p i o (omega (arith, lt, le))
          ∙ at) a ends (length x.code.items) (omega arith) h.stands);
    }

-- JUMPS TO ONE END

module _ (end : ℕ) where
  pub jumps_length : (ps : List ℕ) (x : Output) → length (with_jumps end ps x).code.items ≡ length x.code.items
  jumps_length [] x = refl
  jumps_length (p ∷ ps) x = length-set (with_jumps end ps x).code.items p (Jump end) ∙ jumps_length ps x

  pub jumps_texts : (ps : List ℕ) (x : Output) → (with_jumps end ps x).texts ≡ x.texts
  jumps_texts [] x = refl
  jumps_texts (p ∷ ps) x = jumps_texts ps x

  pub jumps_numbers : (ps : List ℕ) (x : Output) → (with_jumps end ps x).numbers ≡ x.numbers
  jumps_numbers [] x = refl
  jumps_numbers (p ∷ ps) x = jumps_numbers ps x

  pub jumps_last : (ps : List ℕ) (p : ℕ) (x : Output) → with_jumps end (ps ++ p ∷ []) x ≡ with_jumps end ps (with_operation x p (Jump end))
  jumps_last [] p x = refl
  jumps_last (q ∷ ps) p x = ap (λ (o : Output). with_operation o q (Jump end)) (jumps_last ps p x)

  -- jumps before what was added
  pub emits_jumps : (ps : List ℕ) (x y : Output) (a : Flow) (ends : List ℕ) → All (λ p. p < length x.code.items) ps
      → Emits x y a ends → Emits (with_jumps end ps x) (with_jumps end ps y) a ends
  emits_jumps [] x y a ends low h = h
  emits_jumps (p ∷ ps) x y a ends low h =
      let here : p < length x.code.items = All-head (λ q. q < length x.code.items) p ps low in
      emits_under (with_jumps end ps x) (with_jumps end ps y) a ends p (Jump end) (omega (arith, here, jumps_length ps x))
      (emits_jumps ps x y a ends (All-tail (λ q. q < length x.code.items) p ps low) h)
