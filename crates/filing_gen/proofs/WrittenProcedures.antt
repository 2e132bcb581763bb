-- The code of procedures, written one after the other.
use Rattle.std.proofs.Common.{◌≡◌, ℕ, zero, suc, ◌+◌, ◌≤◌, List, [], ◌∷◌, ◌++◌, Some, length, take, drop, sym, ap, ◌∙◌}
use Rattle.std.proofs.Common.{subst, arith, append_assoc, length-append}
use Rattle.std.specs.Prelude.{slice_get}
use Rattle.std.proofs.lemmas.Option.{same_Some}
use Rattle.filing_image.specs.declared.instruction.Operation.{Operation}
use Rattle.filing_image.specs.declared.instruction.Operation.TheVariants.{Return}
use Rattle.sieve_meaning.specs.Meaning.{ScriptName, Library}
use Rattle.sieve_meaning.specs.Procedures.{Procedure}
use Rattle.filing_flow.specs.Structure.{Flow, block, size}
use Rattle.filing_flow.specs.Code.{Operands, Stands}
use Rattle.filing_flow.specs.Procedures.{ProceduresStand, places_from, whole_size}
use Rattle.filing_flow.proofs.Stands.{Named, SameFrom, stands_there}
use Rattle.filing_procedures.specs.Slots.{Slots}
use Rattle.filing_gen.specs.BlockCode.{script_flow}
use Rattle.filing_gen.specs.Adds.{operands_of, Puts, Emits}
use Rattle.filing_gen.specs.Procedures.{calling_flow, procedure_flows}
use Rattle.filing_gen.specs.SharedCode.{EmitsProcedure}
use Rattle.filing_gen.specs.declared.output.Output.{Output}
use Rattle.filing_gen.proofs.Emitted.{same_front, put_at_end, still_stands, named_by, keeps_put, keeps_then, grows}

-- LISTS

pub take_next : {A : Type 0} (xs : List A) (i : ℕ) (x : A) → slice_get xs i ≡ Some x → take (suc i) xs ≡ take i xs ++ x ∷ []
take_next [] i x at = absurd (cc at)
take_next (y ∷ ys) zero x at = ap (λ (z : _). z ∷ []) (same_Some y x at)
take_next (y ∷ ys) (suc i) x at = ap (λ (zs : List _). y ∷ zs) (take_next ys i x at)

-- SIZES AND PLACES

whole_append : (done : List Flow) (a : Flow) → whole_size (done ++ a ∷ []) ≡ whole_size done + (size a + 1)
whole_append [] a = omega arith
whole_append (b ∷ done) a = omega (arith, whole_append done a)

places_append : (place : ℕ) (done : List Flow) (a : Flow) → places_from place (done ++ a ∷ []) ≡ places_from place done
    ++ (place + whole_size done) ∷ []
places_append place [] a = ap (λ (n : ℕ). n ∷ []) (omega arith)
places_append place (b ∷ done) a =
    ap (λ (ns : List ℕ). place ∷ ns) (places_append (place + size b + 1) done a)
    ∙ ap (λ (n : ℕ). place ∷ (places_from (place + size b + 1) done ++ n ∷ [])) (omega arith)

pub whole_later : (flows : List Flow) (i : ℕ) (a : Flow) → slice_get flows i ≡ Some a → whole_size (take i flows) + (size a + 1) ≤ whole_size flows
whole_later [] i a at = absurd (cc at)
whole_later (b ∷ flows) zero a at = omega (arith, ap size (same_Some b a at))
whole_later (b ∷ flows) (suc i) a at = omega (arith, whole_later flows i a at)

-- CODE

pub procedures_there : (n m : Operands) → Named n m → (os ps : List Operation) → SameFrom 0 os ps
    → (flows : List Flow) (place : ℕ) → ProceduresStand n os flows place → ProceduresStand m ps flows place
procedures_there n m named os ps same [] place h = tt
procedures_there n m named os ps same (a ∷ later) place h = (
  stands_there n m named os ps 0 same (block a) [] place (omega arith) h.0,
  same (place + size a) Return (omega arith) h.1,
  procedures_there n m named os ps same later (place + size a + 1) h.2,
)

module _ (n : Operands) (os : List Operation) (a : Flow) where
  stand_append : (done : List Flow) (place : ℕ) → ProceduresStand n os done place
      → Stands n os (block a) [] (place + whole_size done)
      → slice_get os (place + whole_size done + size a) ≡ Some Return → ProceduresStand n os (done ++ a ∷ []) place
  stand_append [] place h body end =
      let here : place + 0 ≡ place = omega arith in
      (subst (λ (k : ℕ). Stands n os (block a) [] k) here body, subst (λ (k : ℕ). slice_get os (k + size a) ≡ Some Return) here end, tt)
  stand_append (b ∷ done) place h body end =
      let here : place + (size b + 1 + whole_size done) ≡ place + size b + 1 + whole_size done = omega arith in (
        h.0,
        h.1,
        stand_append done (place + size b + 1) h.2 (subst (λ (k : ℕ). Stands n os (block a) [] k) here body)
            (subst (λ (k : ℕ). slice_get os (k + size a) ≡ Some Return) here end),
      )

-- the code of the procedure, and after it its end
pub procedure_emitted : (x m y : Output) (a : Flow) → Emits x m (block a) [] → Puts m y Return → EmitsProcedure x y a
procedure_emitted x m y a body end =
    let kept = keeps_put m y Return end in
    record {
      keeps = keeps_then x m y (size a) 0 (size a) (omega arith) body.keeps kept;
      added = body.added ++ Return ∷ [];
      code = end.code ∙ ap (λ (l : List Operation). l ++ Return ∷ []) body.code ∙ append_assoc x.code.items body.added (Return ∷ []);
      long = length-append body.added (Return ∷ []) ∙ ap (λ (n : ℕ). n + 1) body.long;
      stands = still_stands x m y 0 (Return ∷ []) (block a) [] (length x.code.items) kept end.code body.stands;
      ends = subst (λ (k : ℕ). slice_get y.code.items k ≡ Some Return) (grows x m (block a) [] body).code (put_at_end m y Return end);
    }

-- The output has the code of these procedures, which begin at these places.
pub record HasProcedures (o : Output) (first_places : List ℕ) (procedures : List Flow) : Type 0 where
  pub places : first_places ≡ places_from 0 procedures
  pub stand : ProceduresStand (operands_of o) o.code.items procedures 0
  pub long : length o.code.items ≡ whole_size procedures
  pub texts : length o.texts ≤ whole_size procedures
  pub numbers : length o.numbers ≤ whole_size procedures

-- one more was written
pub one_more : (x y : Output) (first_places : List ℕ) (done : List Flow) (a : Flow) → HasProcedures x first_places done
    → EmitsProcedure x y a → HasProcedures y (first_places ++ length x.code.items ∷ []) (done ++ a ∷ [])
one_more x y first_places done a h e =
    let at : 0 + whole_size done ≡ length x.code.items = omega (arith, h.long) in
    let n = operands_of y in
    let os = y.code.items in
    record {
      places = ap (λ (ns : List ℕ). ns ++ length x.code.items ∷ []) h.places
          ∙ ap (λ (k : ℕ). places_from 0 done ++ k ∷ []) (sym at) ∙ sym (places_append 0 done a);
      stand =
          stand_append n os a done 0 (procedures_there (operands_of x) n (named_by x y (size a) e.keeps) x.code.items os
          (same_front x.code.items e.added os e.code) done 0 h.stand)
          (subst (λ (k : ℕ). Stands n os (block a) [] k) (sym at) e.stands) (subst (λ (k : ℕ).
          slice_get os (k + size a) ≡ Some Return) (sym at) e.ends);
      long = ap length e.code ∙ length-append x.code.items e.added ∙ omega (arith, whole_append done a, h.long, e.long);
      texts = omega (arith, whole_append done a, h.texts, e.keeps.texts);
      numbers = omega (arith, whole_append done a, h.numbers, e.keeps.numbers);
    }

module _ (lib : Library) (slot : Slots) (main : List ScriptName) where
  -- the code of the procedure with a number, which calls those after it
  pub flow_at : (own : ℕ) (ps : List Procedure) (i : ℕ) (p : Procedure) → slice_get ps i ≡ Some p
      → slice_get (procedure_flows lib slot main own ps) i
      ≡ Some (script_flow (calling_flow lib slot main (own + i) (drop (suc i) ps) p) p.script)
  flow_at own [] i p at = absurd (cc at)
  flow_at own (q ∷ ps) zero p at =
      ap (λ (r : Procedure). Some (script_flow (calling_flow lib slot main own ps r) r.script)) (same_Some q p at)
      ∙ ap (λ (k : ℕ). Some (script_flow (calling_flow lib slot main k ps p) p.script)) (omega arith)
  flow_at own (q ∷ ps) (suc i) p at =
      flow_at (suc own) ps i p at ∙ ap (λ (k : ℕ). Some (script_flow (calling_flow lib slot main k (drop (suc i) ps) p) p.script)) (omega arith)
