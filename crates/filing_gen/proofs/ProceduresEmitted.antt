-- The code of all procedures, as it is written in turn.
use Rattle.std.proofs.Common.{◌≡◌, ℕ, zero, suc, ◌+◌, ◌-◌, ◌<◌, ◌≤◌, ◌^◌, List, [], ◌∷◌, ◌++◌, length, map, take, drop}
use Rattle.std.proofs.Common.{get_or, Some, refl, sym, ap, ◌∙◌, subst, arith}
use Rattle.std.specs.Prelude.{slice_get}
use Rattle.std.proofs.lemmas.List.{length-map, take_rest}
use Rattle.std.proofs.lemmas.Grind.{common_steps}
use Rattle.sieve_meaning.specs.Meaning.{ScriptName, Library}
use Rattle.sieve_meaning.specs.Procedures.{Procedure, shared_weight}
use Rattle.filing_flow.specs.Structure.{Flow, size}
use Rattle.filing_flow.specs.Procedures.{whole_size}
use Rattle.filing_procedures.specs.Slots.{Slots}
use Rattle.filing_procedures.specs.ProcedureCode.{procedure_of}
use Rattle.filing_procedures.specs.declared.procedure.Procedure as code
use Rattle.filing_gen.specs.BlockCode.{script_flow}
use Rattle.filing_gen.specs.Adds.{HasRoom}
use Rattle.filing_gen.specs.Procedures.{calling_flow, procedure_flows}
use Rattle.filing_gen.specs.SharedCode.{EmitsProcedure, IsSharedCode}
use Rattle.filing_gen.specs.declared.output.Output.{Output}
use Rattle.filing_gen.proofs.ProcedureSizes.{procedures_small}
use Rattle.filing_gen.proofs.SharedTypes.{flows_long}
use Rattle.filing_gen.proofs.WrittenProcedures.{take_next, whole_later, HasProcedures, one_more, flow_at}

module _ {A B : Type 0} (f : A → B) where
  got_map : (xs : List A) (i : ℕ) (x : A) → i < length xs → x ≡ get_or xs i x → slice_get (map f xs) i ≡ Some (f x)
  got_map [] i x below is = absurd (omega (arith, below))
  got_map (y ∷ ys) zero x below is = ap (λ (z : A). Some (f z)) (sym is)
  got_map (y ∷ ys) (suc i) x below is = got_map ys i x (omega (arith, below)) is

  drop_map : (i : ℕ) (xs : List A) → drop i (map f xs) ≡ map f (drop i xs)
  drop_map zero xs = refl
  drop_map (suc i) [] = refl
  drop_map (suc i) (x ∷ xs) = drop_map i xs

all_taken : (flows : List Flow) (i : ℕ) → length flows ≤ i → take i flows ≡ flows
all_taken flows i past = grind (arith, common_steps)

module _ (lib : Library) (slot : Slots) (main : List ScriptName) (ps : List code.Procedure) where
  abbrev pub flows : List Flow
  flows = procedure_flows lib slot main 0 (map procedure_of ps)

  -- the procedures after the one with a number
  abbrev pub after : (own : ℕ) → List code.Procedure
  after own = take (length ps - (own + 1)) (drop (own + 1) ps)

  -- the code of the procedure with a number
  abbrev pub flow_of : (own : ℕ) → code.Procedure → Flow
  flow_of own p = script_flow (calling_flow lib slot main own (map procedure_of (after own)) (procedure_of p)) (procedure_of p).script

  none_first : (own : ℕ) → 0 + own ≡ own
  none_first own = omega arith

  next : (own : ℕ) → suc own ≡ own + 1
  next own = omega arith

  module _ (own : ℕ) (p : code.Procedure) (below : own < length ps) (is : p ≡ get_or ps own p) where
    abbrev a : Flow
    a = flow_of own p

    afterwards : drop (suc own) (map procedure_of ps) ≡ map procedure_of (after own)
    afterwards = drop_map procedure_of (suc own) ps ∙ ap (λ (k : ℕ). map procedure_of (drop k ps)) (next own)
        ∙ ap (map procedure_of) (sym (take_rest ps (own + 1)))

    here : slice_get flows own ≡ Some a
    here =
        flow_at lib slot main 0 (map procedure_of ps) own (procedure_of p) (got_map procedure_of ps own p below is)
        ∙ ap (λ (k : ℕ).
        Some (script_flow (calling_flow lib slot main k (drop (suc own) (map procedure_of ps)) (procedure_of p))
        (procedure_of p).script)) (none_first own)
        ∙ ap (λ (l : List Procedure). Some (script_flow (calling_flow lib slot main own l (procedure_of p)) (procedure_of p).script)) afterwards

    module _ (x : Output) (places : List ℕ) (has : HasProcedures x places (take own flows)) where
      module _ (light : shared_weight (map procedure_of ps) ≤ 60000) where
        small : whole_size (take own flows) + (size a + 1) ≤ 60000
        small = omega (arith, whole_later flows own a here, procedures_small lib slot main 0 (map procedure_of ps), light)

        pub place_fits : length x.code.items < 2 ^ 16
        place_fits = omega (arith, small, has.long)

        pub room_left : HasRoom x (size a + 1)
        room_left = (omega (arith, small, has.long), omega (arith, small, has.texts), omega (arith, small, has.numbers))

      pub procedure_more : (y : Output) (more : List ℕ) → EmitsProcedure x y a → more ≡ places
          ++ length x.code.items ∷ [] → HasProcedures y more (take (own + 1) flows)
      procedure_more y more e new =
          subst (λ (l : List ℕ). HasProcedures y l (take (own + 1) flows)) (sym new)
          (subst (λ (fs : List Flow). HasProcedures y (places ++ length x.code.items ∷ []) fs)
          (sym (take_next flows own a here)
          ∙ ap (λ (k : ℕ). take k flows) (next own)) (one_more x y places (take own flows) a has e))

  pub none_written : (o : Output) → o.texts ≡ [] → o.numbers ≡ [] → o.code.items ≡ [] → HasProcedures o [] (take 0 flows)
  none_written o texts numbers code = record {
    places = refl;
    stand = tt;
    long = ap length code;
    texts =
        omega (arith, ap length texts);
    numbers = omega (arith, ap length numbers);
  }

  pub all_written : (o : Output) (places : List ℕ) (own : ℕ) → length ps ≤ own → HasProcedures o places (take own flows) → IsSharedCode o places flows
  all_written o places own past was =
      let long = flows_long lib slot main 0 (map procedure_of ps) in
      let has : HasProcedures o places flows =
      subst (HasProcedures o places) (all_taken flows own (omega (arith, past, long, length-map ps procedure_of)))
      was in
      record { places = has.places; stand = has.stand; long = has.long; texts = has.texts; numbers = has.numbers }
