-- The program of a script's code may run, and has the script's outcome in every case.
use Rattle.std.proofs.Common.{◌≡◌, ℕ, ◌+◌, ◌<◌, ◌≤◌, ◌^◌, List, [], ◌∷◌, Option, Some, None, false, length, refl, sym, ap, ◌∙◌, subst, arith}
use Rattle.std.proofs.lemmas.List.{length-replicate, get_or-replicate}
use Rattle.filing_image.specs.Program.{Program, version_of}
use Rattle.filing_verify.specs.Well.{IsWell}
use Rattle.filing_table.specs.Ends.{HasOutcome}
use Rattle.filing_flow.specs.Structure.{Flow, action, size, End, without_procedures, IsSound}
use Rattle.filing_flow.specs.Effect.{Exit, EndsRun, no_calls, effect, caught}
use Rattle.filing_flow.specs.Effect as code
use Rattle.filing_flow.specs.Whole.{whole, IsCodeOf, nothing_done, outcome_from}
use Rattle.filing_flow.proofs.Well.{typed_is_well}
use Rattle.filing_flow.proofs.Ended.{program_ends}
use Rattle.sieve_meaning.specs.Case.{Facts}
use Rattle.sieve_meaning.specs.Program.{Commands}
use Rattle.sieve_meaning.specs.Meaning.{Ending, GoesOn, Returns, Stops, Faults, inclusion_within, meaning, opening, main_names, Library}
use Rattle.sieve_meaning.specs.declared.outcome.Outcome.{Outcome}
use Rattle.sieve_meaning.specs.declared.run_fault.RunFault.{RunFault}
use Rattle.sieve_meaning.specs.Outcome.{outcome_at, outcome_of}
use Rattle.sieve_meaning.proofs.OutcomeLaws.{budget_by_weight}
use Rattle.sieve_meaning.specs.Weight.{linked_weight, included_weight}
use Rattle.filing_gen.specs.BlockCode.{script_flow}
use Rattle.filing_procedures.specs.Slots.{Slots, HasSlots}
use Rattle.filing_gen.specs.IncludeCode.{linked_flow, MarksEntries}
use Rattle.filing_gen.specs.Alike.{Marking, AreAlike, filing_at, exit_of, Alike}
use Rattle.std.specs.Prelude.{slice_get}
use Rattle.filing_image.specs.declared.instruction.Operation.{Operation}
use Rattle.filing_flow.specs.Code.{places_in}
use Rattle.filing_flow.proofs.Stands.{Named, stands_there}
use Rattle.filing_gen.specs.Adds.{operands_of, HasRoom, IsCode, IsImageOfOutput}
use Rattle.filing_gen.specs.Emission.{commands_long}
use Rattle.filing_gen.specs.declared.output.Output.{Output}
use Rattle.filing_flow.specs.Compiled.{IsCompiled}
use Rattle.filing_gen.proofs.Turns.{flow_long}
use Rattle.filing_gen.proofs.Means.{flow_means}
use Rattle.filing_gen.proofs.Includes.{included_agrees}
use Rattle.filing_gen.proofs.IncludesTypes.{included_typed, included_small, included_sound}
use Rattle.filing_gen.proofs.Types.{flow_typed, flow_small, flow_sound}

-- how the run ends after a script's ending
abbrev pub fault_of : Ending → Option RunFault
fault_of (GoesOn f) = None
fault_of (Returns f) = None
fault_of (Stops f) = None
fault_of (Faults fault f) = Some fault

end_means : (c : Facts) (e : Ending) (g : code.FlowState)
    → code.and_then (caught (exit_of 0 e g)) (effect no_calls c (action End)) ≡ EndsRun (fault_of e) g
end_means c (GoesOn f) g = refl
end_means c (Returns f) g = refl
end_means c (Stops f) g = refl
end_means c (Faults fault f) g = refl

outcome_is : (e : Ending) → outcome_at (fault_of e) (filing_at e).filed (filing_at e).kept (filing_at e).cancelled ≡ outcome_of e
outcome_is (GoesOn f) = refl
outcome_is (Returns f) = refl
outcome_is (Stops f) = refl
outcome_is (Faults fault f) = refl

pub same_outcome : (marking : Marking) (e : Ending) (g : code.FlowState) → AreAlike marking (filing_at e) g
    → outcome_from (fault_of e) g ≡ outcome_of e
same_outcome marking e g r = rw (r.filed, r.kept, r.cancelled) (outcome_is e)

abbrev pub main_flow : Library → Slots → Option (List ℕ) → Commands → Flow
main_flow lib slot known_as main = script_flow (linked_flow lib slot known_as) main

-- before a run only the main script was entered, and no mark is set
pub opening_related : (lib : Library) (slot : Slots) (count : ℕ) → HasSlots lib slot count
    → (known_as : Option (List ℕ))
    → AreAlike (MarksEntries lib slot (main_names known_as) (main_names known_as)) (opening known_as) nothing_done
opening_related lib slot count has known_as =
    record {
      filed = refl;
      kept = refl;
      cancelled = refl;
      marks =
          record {
            long = length-replicate 64 false;
            active = λ s h. h;
            found = λ s x at out.
                get_or-replicate 64 (slot s) false false (let l = has.inside s x at in omega (arith, l, has.few))
                ∙ sym out;
            missing = λ s none. refl;
          };
    }

module _ (lib : Library) (slot : Slots) (count : ℕ) (has : HasSlots lib slot count) (known_as : Option (List ℕ)) (main : Commands) where
  script_means : (c : Facts)
      → Alike (MarksEntries lib slot (main_names known_as) (main_names known_as)) 0 (meaning c lib known_as main)
      (effect no_calls c (main_flow lib slot known_as main) nothing_done [])
  script_means c =
      flow_means no_calls c (MarksEntries lib slot (main_names known_as) (main_names known_as))
      (linked_flow lib slot known_as) (inclusion_within c lib 7 (main_names known_as))
      (included_agrees no_calls c lib slot count has (main_names known_as) 7 (main_names known_as) (λ s h. h)) 0
      main (opening known_as) nothing_done
      (opening_related lib slot count has known_as)

  sound : IsSound (without_procedures count) (main_flow lib slot known_as main)
  sound = flow_sound (without_procedures count) (linked_flow lib slot known_as)
      (included_sound (without_procedures count) lib slot has (main_names known_as) 7 (main_names known_as)) 0 main

  has_outcome : (p : Program) → IsCodeOf p (main_flow lib slot known_as main) → p.slots ≡ count → (c : Facts) → (n : ℕ)
      × HasOutcome p c n (outcome_of (meaning c lib known_as main))
  has_outcome p is slots c =
      let m = meaning c lib known_as main in
      let a = main_flow lib slot known_as main in
      let h = script_means c in
      let ends : effect no_calls c (whole a) nothing_done [] ≡ EndsRun (fault_of m) h.filing =
      ap (λ (x : Exit). code.and_then (caught x) (effect no_calls c (action End))) h.exit
      ∙ end_means c m h.filing in
      let good : IsSound (without_procedures p.slots) a = subst (λ (k : ℕ). IsSound (without_procedures k) a) (sym slots) sound in
      let found = program_ends p c a (fault_of m) h.filing is good ends in (
        found.0,
        subst (λ (o : Outcome).
            HasOutcome p c found.0 o) (same_outcome (MarksEntries lib slot (main_names known_as) (main_names known_as)) m
            h.filing h.related) found.1,
      )

  script_small : size (main_flow lib slot known_as main) + 1 ≤ linked_weight lib known_as main
  script_small =
      omega (
        arith,
        flow_small (linked_flow lib slot known_as) (included_weight lib 7 (main_names known_as))
            (included_small lib slot (main_names known_as) 7 (main_names known_as)) 0 main,
      )

  well : (p : Program) → IsCodeOf p (main_flow lib slot known_as main) → p.slots ≡ count
      → p.budget ≡ linked_weight lib known_as main → linked_weight lib known_as main < 2 ^ 16 → IsWell p
  well p is slots budget small =
      let good : IsSound (without_procedures p.slots) (main_flow lib slot known_as main) =
      subst (λ (k : ℕ). IsSound (without_procedures k) (main_flow lib slot known_as main)) (sym slots) sound in
      typed_is_well p (main_flow lib slot known_as main) is
      (flow_typed (linked_flow lib slot known_as)
      (included_typed lib slot (main_names known_as) 7 (main_names known_as)) 0 main ([] ∷ []) refl)
      good (omega (arith, slots, has.few)) (omega (arith, budget, script_small)) (omega (arith, budget, small))

  -- what was written is the program
  code_of : (o : Output) (p : Program) (a : Flow) (b : ℕ) → IsCode o a → IsImageOfOutput b count None o p → IsCodeOf p a
  code_of o p a b is made =
      let named : Named (operands_of o) (places_in p.texts p.numbers) = record { text = made.text; number = made.number } in
      record {
        one_piece = made.procedures_are;
        stands = stands_there (operands_of o) (places_in p.texts p.numbers) named o.code.items p.code 0 (λ i x low at.
            subst (λ (l : List Operation). slice_get l i ≡ Some x) (sym made.code) at) (whole a) [] 0 (omega arith)
            is.stands;
        long = ap length made.code ∙ is.long;
      }

  pub few : (o : Output) → IsCode o (main_flow lib slot known_as main) → linked_weight lib known_as main ≤ 60000 → HasRoom o 0
  few o is small = (
    omega (arith, is.long, script_small, small),
    omega (arith, is.texts, script_small, small),
    omega (arith, is.numbers, script_small, small),
  )

  pub built_well : (o : Output) (p : Program) (b : ℕ) → IsCode o (main_flow lib slot known_as main)
      → IsImageOfOutput b count None o p → b ≡ linked_weight lib known_as main → b ≤ 60000 → IsWell p
  built_well o p b is made weight small =
      well p (code_of o p (main_flow lib slot known_as main) b is made) made.slots (made.budget_is ∙ weight) (omega (arith, weight, small))

  pub built : (o : Output) (p : Program) (b : ℕ) → IsCode o (main_flow lib slot known_as main)
      → IsImageOfOutput b count None o p → IsWell p → b ≡ linked_weight lib known_as main → b ≤ 60000
      → IsCompiled lib known_as main p
  built o p b is made good weight small =
      record {
        version = (λ one. omega (arith, weight, small), λ light. ap version_of made.procedures_are);
        budget = made.budget_is ∙ weight ∙ sym (budget_by_weight lib known_as main (omega (arith, weight, small)));
        well = good;
        outcomes = has_outcome p (code_of o p (main_flow lib slot known_as main) b is made) made.slots;
      }

  pub room : linked_weight lib known_as main ≤ 60000 → commands_long (λ i. size (linked_flow lib slot known_as i)) main + 1 < 2 ^ 16
  room small = omega (arith, small, script_small, flow_long (linked_flow lib slot known_as) 0 main)
