-- The machine does what procedures do.
use Rattle.std.proofs.Common.{◌≡◌, ℕ, suc, ◌+◌, List, [], ◌∷◌, length, Bool, true, false, cond, Option, Some, None, refl, ap, ◌∙◌, subst}
use Rattle.std.specs.Prelude.{slice_get, nat_eq}
use Rattle.std.proofs.lemmas.Bool.{eqb-true}
use Rattle.filing_image.specs.declared.instruction.Operation.TheVariants.{Call, Return}
use Rattle.filing_image.specs.Program.{Program}
use Rattle.filing_verify.specs.Flow.{first_place}
use Rattle.sieve_meaning.specs.Case.{Facts}
use Rattle.filing_table.specs.Machine.{Run, At, with_named, enter}
use Rattle.filing_flow.specs.Structure.{Flow, block, size}
use Rattle.filing_flow.specs.Effect.{FlowState, Exit, FallsThrough, EndsRun, call_exit, and_then, effect}
use Rattle.filing_flow.specs.Procedures.{called_by, RunsAsItsProcedures}
use Rattle.filing_flow.specs.Whole.{nothing_done}
use Rattle.filing_flow.proofs.Follow.{on, Comes, then, by_one, stepped, Arrives, arrives_later, CallsRun, flow_runs}
use Rattle.filing_flow.proofs.Ended.{outcome_at_end}
use Rattle.filing_flow.proofs.Rest.{RestOf, all, after_it, first_is}

module _ (p : Program) (c : Facts) where
  -- a RETURN goes on after the call
  goes_back : (calls : List ℕ) (x : Exit) (next end : ℕ) (ends : List ℕ) (y : Run) → slice_get p.code end ≡ Some Return
      → Arrives p c (next ∷ calls) x end [] y → Arrives p c calls (call_exit x) next ends y
  goes_back calls (FallsThrough f []) next end ends y at a = then p c a (by_one p c (stepped p c (next ∷ calls) f end [] Return at))
  goes_back calls (EndsRun k f) next end ends y at a = a
  goes_back calls x next end ends y at a = tt

  enters : (calls : List ℕ) (b first pc : ℕ) (f : FlowState) → slice_get p.code pc ≡ Some (Call b)
      → first_place p b ≡ Some first → Comes p c (At (on calls f pc [])) (At (on ((pc + 1) ∷ calls) f first []))
  enters calls b first pc f at is = by_one p c (stepped p c calls f pc [] (Call b) at
      ∙ ap (λ (x : Option ℕ). with_named x (enter (on calls f pc []))) is)

  module _ (count : ℕ) where
    -- the code of one procedure, where its calls run
    procedure_runs : (a : Flow) (later : List Flow) (from place : ℕ) → RestOf p count from place (a ∷ later)
        → (calls : List ℕ) → CallsRun p c calls (called_by c (suc from) later) → (f : FlowState)
        → Arrives p c calls (effect (called_by c (suc from) later) c (block a) f []) (place + size a) [] (At (on calls f place []))
    procedure_runs a later from place rest calls run f =
        flow_runs p c calls (called_by c (suc from) later) run (record {
          slots = p.slots;
          own = from;
          procedures =
              count;
        }) refl (block a) [] place f [] rest.sound.0 rest.stand.0

    -- a call of the first of these, or of a later one
    call_runs : (a : Flow) (later : List Flow) (from place : ℕ) → RestOf p count from place (a ∷ later)
        → ((calls : List ℕ) → CallsRun p c calls (called_by c (suc from) later)) → (calls : List ℕ)
        → CallsRun p c calls (called_by c from (a ∷ later))
    call_runs a later from place rest run calls b f pc ends at = go (nat_eq b from) refl
      where
        go : (t : Bool) → nat_eq b from ≡ t
            → Arrives p c calls (call_exit (cond t (effect (called_by c (suc from) later) c (block a) f [])
            (called_by c (suc from) later b f))) (pc + 1) ends (At (on calls f pc []))
        go true e =
            let x = effect (called_by c (suc from) later) c (block a) f [] in
            let is : first_place p b ≡ Some place = ap (first_place p) (eqb-true b from e) ∙ first_is p count from place a later rest in
            let body = procedure_runs a later from place rest ((pc + 1) ∷ calls) (run ((pc + 1) ∷ calls)) f in
            arrives_later p c calls (call_exit x) (pc + 1) ends (At (on calls f pc []))
            (At (on ((pc + 1) ∷ calls) f place [])) (enters calls b place pc f at is)
            (goes_back calls x (pc + 1) (place + size a) ends (At (on ((pc + 1) ∷ calls) f place [])) rest.stand.1 body)
        go false e = run calls b f pc ends at

    pub calls_run : (procedures : List Flow) (from place : ℕ) → RestOf p count from place procedures → (calls : List ℕ)
        → CallsRun p c calls (called_by c from procedures)
    calls_run [] from place rest calls = λ b f pc ends at. tt
    calls_run (a ∷ later) from place rest calls =
        call_runs a later from place rest
        (calls_run later (suc from) (place + size a + 1) (after_it p count from place a later rest)) calls

  -- a RETURN with no place to return to ends the run
  last_returns : (x : Exit) (end : ℕ) (y : Run) → slice_get p.code end ≡ Some Return → Arrives p c [] x end [] y
      → Arrives p c [] (and_then (call_exit x) (λ f es. EndsRun None f)) end [] y
  last_returns (FallsThrough f []) end y at a =
      record { pc = end; stack = []; calls = []; comes = then p c a (by_one p c (stepped p c [] f end [] Return at)) }
  last_returns (EndsRun k f) end y at a = a
  last_returns x end y at a = tt

pub procedures_end : RunsAsItsProcedures
procedures_end p c [] fault f are sound means = absurd (cc means)
procedures_end p c (a ∷ later) fault f are sound means =
    let count = suc (length later) in
    let rest : RestOf p count 0 0 (a ∷ later) = all p count (a ∷ later) are sound in
    let next : RestOf p count 1 (0 + size a + 1) later = after_it p count 0 0 a later rest in
    let from : Run = At (on [] nothing_done 0 []) in
    let body = procedure_runs p c count a later 0 0 rest [] (calls_run p c count later 1 (0 + size a + 1) next []) nothing_done in
    let runs = last_returns p c (effect (called_by c 1 later) c (block a) nothing_done []) (0 + size a) from rest.stand.1 body in
    outcome_at_end p c fault f (subst (λ (x : Exit). Arrives p c [] x (0 + size a) [] from) means runs)
