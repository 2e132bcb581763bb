-- The code of all procedures does what the main script means: each procedure does what its script means, by recursion on
-- those after it.
use Rattle.std.proofs.Common.{◌≡◌, ◌+◌, ◌≤◌, ℕ, zero, suc, List, [], ◌∷◌, Bool, cond, Option, Some, length, refl, sym, ap, ◌∙◌, subst, arith}
use Rattle.std.specs.Prelude.{slice_get, nat_eq}
use Rattle.std.proofs.lemmas.Bool.{eq-eqb, false_from_ne_true, eqb-true}
use Rattle.std.proofs.lemmas.Option.{same_Some}
use Rattle.filing_image.specs.Program.{Program}
use Rattle.filing_table.specs.Ends.{HasOutcome}
use Rattle.sieve_meaning.specs.Case.{Facts}
use Rattle.sieve_meaning.specs.Program.{Commands}
use Rattle.sieve_meaning.specs.Meaning.{ScriptName, Library, Ending, GoesOn, Returns, Stops, Faults, run}
use Rattle.sieve_meaning.specs.Meaning.{inclusion_within, ending_of_include, opening, meaning, main_names}
use Rattle.sieve_meaning.specs.declared.outcome.Outcome.{Outcome}
use Rattle.sieve_meaning.specs.Outcome.{outcome_of}
use Rattle.sieve_meaning.specs.Procedures.{Procedure, main_procedure}
use Rattle.sieve_meaning.proofs.ProcedureLemmas.{AllOf, AllFind, IsSomeEntered, all_element, all_find}
use Rattle.sieve_meaning.proofs.ProcedureLemmas.{after_main, procedures_are, after_main_entered}
use Rattle.filing_flow.specs.Structure.{CallTo, Flow, action, End}
use Rattle.filing_flow.specs.Effect.{Exit, EndsRun, CallEffects, effect, caught, call_exit}
use Rattle.filing_flow.specs.Effect as code
use Rattle.filing_flow.specs.Whole.{nothing_done, outcome_from}
use Rattle.filing_flow.specs.Procedures.{AreProceduresOf, AreSound, called_by, first_call}
use Rattle.filing_flow.proofs.Calls.{procedures_end}
use Rattle.filing_procedures.specs.Slots.{Slots, HasSlots}
use Rattle.filing_gen.specs.BlockCode.{script_flow}
use Rattle.filing_gen.specs.IncludeCode.{MarksEntries}
use Rattle.filing_gen.specs.Alike.{Marking, exit_of, Alike}
use Rattle.filing_gen.specs.Procedures.{calling_flow, procedure_flows, shared_flows}
use Rattle.filing_gen.proofs.Includes.{ended_alike}
use Rattle.filing_gen.proofs.CallLemmas.{CallMeans, CallsMean, procedure_means}
use Rattle.filing_gen.proofs.PathLemmas.{got_element}
use Rattle.filing_gen.proofs.Compiled.{fault_of, same_outcome, opening_related}

-- a procedure returns, or ends the run, as its script does
returned_alike : (marking : Marking) (n : ℕ) (e : Ending) (x : Exit) → Alike marking n (ending_of_include e) x
    → Alike marking n (ending_of_include e) (call_exit x)
returned_alike marking n (GoesOn f) x h = record { filing = h.filing; related = h.related; exit = ap call_exit h.exit }
returned_alike marking n (Returns f) x h = record { filing = h.filing; related = h.related; exit = ap call_exit h.exit }
returned_alike marking n (Stops f) x h = record { filing = h.filing; related = h.related; exit = ap call_exit h.exit }
returned_alike marking n (Faults fault f) x h = record { filing = h.filing; related = h.related; exit = ap call_exit h.exit }

-- the first procedure ends the run as the main script does
first_ends : (called : CallEffects) (c : Facts) (e : Ending) (g : code.FlowState)
    → code.and_then (call_exit (caught (exit_of 0 e g))) (effect called c (action End)) ≡ EndsRun (fault_of e) g
first_ends called c (GoesOn f) g = refl
first_ends called c (Returns f) g = refl
first_ends called c (Stops f) g = refl
first_ends called c (Faults fault f) g = refl

module _ (c : Facts) (lib : Library) (slot : Slots) (count : ℕ) (has : HasSlots lib slot count) (main : List ScriptName) where
  -- what calls of these procedures do, of which the first has the number `own`
  abbrev calls_of : (own : ℕ) → List Procedure → CallEffects
  calls_of own ps = called_by c own (procedure_flows lib slot main own ps)

  -- calls of these do what their scripts mean
  abbrev AreMeant : (own : ℕ) → List Procedure → Type 0
  AreMeant own ps = (n : ℕ) (q : Procedure) → slice_get ps n ≡ Some q
      → CallMeans (calls_of own ps) c lib slot count has main (action (CallTo (own + n))) q

  module _ (own : ℕ) (p : Procedure) (later : List Procedure) where
    abbrev own_flow : Flow
    own_flow = script_flow (calling_flow lib slot main own later p) p.script

    -- a call of the procedure itself, and of those after it
    calls_itself : (g : code.FlowState) → calls_of own (p ∷ later) (own + zero) g ≡ caught (effect (calls_of (suc own) later) c own_flow g [])
    calls_itself g =
        ap (λ (b : Bool). cond b (caught (effect (calls_of (suc own) later) c own_flow g []))
        (calls_of (suc own) later (own + zero) g)) (eq-eqb (own + zero) own (omega arith))

    calls_later : (n : ℕ) (g : code.FlowState) → calls_of own (p ∷ later) (own + suc n) g ≡ calls_of (suc own) later (suc own + n) g
    calls_later n g =
        ap (λ (b : Bool). cond b (caught (effect (calls_of (suc own) later) c own_flow g [])) (calls_of (suc own) later (own + suc n) g))
        (false_from_ne_true (nat_eq (own + suc n) own) (λ h. absurd (let same = eqb-true (own + suc n) own h in omega (arith, same))))
        ∙ ap (λ (b : ℕ). calls_of (suc own) later b g) (omega arith)

  -- calls of the procedures after the one with the number `own`
  calls_mean : (own : ℕ) (later : List Procedure) → AllOf (IsSomeEntered lib) later → AreMeant (suc own) later
      → CallsMean (calls_of (suc own) later) c lib slot count has main own later
  calls_mean own later entered means n q at =
      let known = all_element (IsSomeEntered lib) q later entered (got_element later n q at) in (
        subst (λ (b : ℕ). CallMeans (calls_of (suc own) later) c lib slot count has main (action (CallTo b)) q)
            (omega arith) (means n q at),
        known.0,
        known.2,
      )

  are_meant : (own : ℕ) (ps : List Procedure) → AllFind lib ps → AllOf (IsSomeEntered lib) ps → AreMeant own ps
  are_meant own [] finds entered n q at = absurd (cc at)
  are_meant own (p ∷ later) finds entered zero q at =
      subst (λ (r : Procedure). CallMeans (calls_of own (p ∷ later)) c lib slot count has main (action (CallTo (own + zero))) r) (same_Some p q at)
      (λ chain same within n f g r.
      let marking = MarksEntries lib slot main chain in
      let e = run c (inclusion_within c lib p.left chain) p.script f in
      let called = calls_of (suc own) later in
      let few : p.left ≤ 7 = omega (arith, entered.0.1, entered.0.2.left_is) in
      let body = procedure_means called c lib slot count has main own later
      (calls_mean own later entered.1 (are_meant (suc own) later finds.1 entered.1)) p few finds.0 chain same within
      f g r in
      let whole = effect called c (own_flow own p later) g [] in
      subst (λ (x : Exit). Alike marking n (ending_of_include e) (call_exit x)) (sym (calls_itself own p later g))
      (returned_alike marking n e (caught whole) (ended_alike marking n e whole body)))
  are_meant own (p ∷ later) finds entered (suc n) q at =
      λ chain same within m f g r.
      subst (λ (x : Exit).
      Alike (MarksEntries lib slot main chain) m
      (ending_of_include (run c (inclusion_within c lib q.left chain) q.script f)) (call_exit x))
      (sym (calls_later own p later n g))
      (are_meant (suc own) later finds.1 entered.1 n q at chain same within m f g r)

module _ (lib : Library) (slot : Slots) (count : ℕ) (has : HasSlots lib slot count) (known_as : Option (List ℕ)) (main : Commands) where
  abbrev names : List ScriptName
  names = main_names known_as

  abbrev later : List Procedure
  later = after_main lib known_as main

  -- the code of the main script, which calls the procedures after it
  abbrev main_code : Flow
  main_code = script_flow (calling_flow lib slot names 0 later (main_procedure known_as main)) main

  main_means : (c : Facts)
      → Alike (MarksEntries lib slot names names) 0 (meaning c lib known_as main)
      (effect (called_by c 1 (procedure_flows lib slot names 1 later)) c main_code nothing_done [])
  main_means c =
      let p = main_procedure known_as main in
      let finds : AllFind lib (p ∷ later) = subst (AllFind lib) (procedures_are lib known_as main) (all_find lib known_as main) in
      let entered = after_main_entered lib known_as main in
      let means = calls_mean c lib slot count has names 0 later entered (are_meant c lib slot count has names 1 later finds.1 entered) in
      procedure_means (called_by c 1 (procedure_flows lib slot names 1 later)) c lib slot count has names 0 later means
      p (omega arith) finds.0 names (λ s reached. refl) (λ s h.
      h) (opening known_as) nothing_done (opening_related lib slot count has known_as)

  -- The run of the procedures, from the first one on, ends as the main script does.
  pub record EndsAlike (c : Facts) : Type 0 where
    pub filing : code.FlowState
    pub ends : effect (called_by c 0 (shared_flows lib slot known_as main)) c first_call nothing_done []
        ≡ EndsRun (fault_of (meaning c lib known_as main)) filing
    pub outcome : outcome_from (fault_of (meaning c lib known_as main)) filing ≡ outcome_of (meaning c lib known_as main)

  pub ends_alike : (c : Facts) → EndsAlike c
  ends_alike c =
      let m = meaning c lib known_as main in
      let h = main_means c in
      let called = called_by c 1 (procedure_flows lib slot names 1 later) in
      record {
        filing = h.filing;
        ends =
            ap (λ (ps : List Procedure).
            effect (called_by c 0 (procedure_flows lib slot names 0 ps)) c first_call nothing_done [])
            (procedures_are lib known_as main)
            ∙ ap (λ (x : Exit). code.and_then (call_exit (caught x)) (effect called c (action End))) h.exit
            ∙ first_ends called c m h.filing;
        outcome = same_outcome (MarksEntries lib slot names names) m h.filing h.related;
      }

  -- in every case the run of the program ends with the outcome of what the main script means
  pub has_outcome : (p : Program) → AreProceduresOf p (shared_flows lib slot known_as main)
      → AreSound p.slots (length (shared_flows lib slot known_as main)) 0 (shared_flows lib slot known_as main)
      → (c : Facts) → (n : ℕ) × HasOutcome p c n (outcome_of (meaning c lib known_as main))
  has_outcome p are sound c =
      let h = ends_alike c in
      let found = procedures_end p c (shared_flows lib slot known_as main) (fault_of (meaning c lib known_as main)) h.filing are sound h.ends in
      (found.0, subst (λ (o : Outcome). HasOutcome p c found.0 o) h.outcome found.1)
