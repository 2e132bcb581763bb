-- The program of all procedures may run, and has the main script's outcome in every case.
use Rattle.std.proofs.Common.{◌≡◌, ◌⊎◌, ℕ, ◌≤◌, ◌<◌, List, Bool, true, false, ◌||◌, Option, Some, length, inl, inr, refl, sym, ap, ◌∙◌, subst, arith}
use Rattle.std.specs.Prelude.{nat_lt}
use Rattle.std.proofs.lemmas.Bool.{lt-ltb, le-ltb}
use Rattle.filing_image.specs.Program.{Program, version_of}
use Rattle.filing_image.specs.declared.version.Version.TheVariants.{Two}
use Rattle.filing_image.specs.declared.instruction.Operation.{Operation}
use Rattle.filing_verify.specs.Well.{IsWell}
use Rattle.filing_table.specs.Ends.{HasOutcome}
use Rattle.sieve_meaning.specs.Case.{Facts}
use Rattle.sieve_meaning.specs.Program.{Commands}
use Rattle.sieve_meaning.specs.Meaning.{meaning, main_names, Library}
use Rattle.sieve_meaning.specs.Weight.{greatest_weight}
use Rattle.sieve_meaning.specs.Outcome.{outcome_of}
use Rattle.sieve_meaning.specs.Procedures.{Procedure, procedures, path_weight, shared_weight, most_procedures, greatest_path, is_beyond}
use Rattle.filing_flow.specs.Structure.{Flow}
use Rattle.filing_flow.specs.Code.{places_in}
use Rattle.filing_flow.specs.Procedures.{AreProceduresOf, AreSound, ProceduresStand, places_from, whole_size}
use Rattle.filing_flow.proofs.Stands.{Named}
use Rattle.filing_flow.proofs.WellProcedures.{typed_procedures_are_well}
use Rattle.filing_procedures.specs.Slots.{Slots, HasSlots}
use Rattle.filing_gen.specs.Adds.{operands_of, IsImageOfOutput}
use Rattle.filing_gen.specs.Procedures.{shared_flows}
use Rattle.filing_gen.specs.declared.output.Output.{Output}
use Rattle.filing_gen.proofs.WrittenProcedures.{procedures_there}
use Rattle.filing_gen.proofs.SharedMeaning.{has_outcome}
use Rattle.filing_gen.proofs.SharedSteps.{shared_steps}
use Rattle.filing_gen.proofs.SharedTypes.{flows_long, shared_first, shared_typed, shared_sound}

-- LIMITS

one_of : (a b d : Bool) → (a ≡ true) ⊎ ((b ≡ true) ⊎ (d ≡ true)) → (a || b || d) ≡ true
one_of true b d h = refl
one_of false true d h = refl
one_of false false true h = refl
one_of false false false (inl e) = absurd (cc e)
one_of false false false (inr (inl e)) = absurd (cc e)
one_of false false false (inr (inr e)) = absurd (cc e)

none_of : (a b d : Bool) → a ≡ false → b ≡ false → d ≡ false → (a || b || d) ≡ false
none_of a b d h k l = rw (h, k, l) refl

module _ (ps : List Procedure) (path : ℕ) where
  pub too_many : most_procedures < length ps → is_beyond ps path ≡ true
  too_many over =
      one_of (nat_lt most_procedures (length ps)) (nat_lt greatest_weight (shared_weight ps))
      (nat_lt greatest_path path) (inl (lt-ltb most_procedures (length ps) over))

  pub too_heavy : greatest_weight < shared_weight ps → is_beyond ps path ≡ true
  too_heavy over =
      one_of (nat_lt most_procedures (length ps)) (nat_lt greatest_weight (shared_weight ps))
      (nat_lt greatest_path path) (inr (inl (lt-ltb greatest_weight (shared_weight ps) over)))

  pub too_long : greatest_path < path → is_beyond ps path ≡ true
  too_long over =
      one_of (nat_lt most_procedures (length ps)) (nat_lt greatest_weight (shared_weight ps))
      (nat_lt greatest_path path) (inr (inr (lt-ltb greatest_path path over)))

  pub not_beyond : length ps ≤ most_procedures → shared_weight ps ≤ greatest_weight → path ≤ greatest_path → is_beyond ps path ≡ false
  not_beyond few light short =
      none_of (nat_lt most_procedures (length ps)) (nat_lt greatest_weight (shared_weight ps)) (nat_lt greatest_path path)
      (le-ltb most_procedures (length ps) few) (le-ltb greatest_weight (shared_weight ps) light) (le-ltb greatest_path path short)

-- PROGRAMS

-- what was written is the program
pub shared_program : (o : Output) (p : Program) (flows : List Flow)
    → ProceduresStand (operands_of o) o.code.items flows 0 → length o.code.items ≡ whole_size flows → (budget count : ℕ)
    → IsImageOfOutput budget count (Some (places_from 0 flows)) o p → AreProceduresOf p flows
shared_program o p flows stand long budget count made =
    let named : Named (operands_of o) (places_in p.texts p.numbers) = record { text = made.text; number = made.number } in
    record {
      places = made.procedures_are;
      stand = subst (λ (os : List Operation). ProceduresStand (places_in p.texts p.numbers) os flows 0) (sym made.code)
          (procedures_there (operands_of o) (places_in p.texts p.numbers) named o.code.items o.code.items (λ i x low at.
          at) flows 0 stand);
      long = ap length made.code ∙ long;
    }

module _ (lib : Library) (slot : Slots) (count : ℕ) (has : HasSlots lib slot count) (known_as : Option (List ℕ)) (main : Commands) where
  abbrev flows : List Flow
  flows = shared_flows lib slot known_as main

  -- The program has version 2, declares the path weight as its budget, and may run. In every case its run ends with the
  -- outcome of what the main script means.
  pub record IsShared (p : Program) : Type 0 where
    pub shared : version_of p.procedures ≡ Two
    pub budget : p.budget ≡ path_weight lib known_as main
    pub well : IsWell p
    pub outcomes : (c : Facts) → (n : ℕ) × HasOutcome p c n (outcome_of (meaning c lib known_as main))

  pub shared_compiled : (o : Output) (p : Program) (budget : ℕ) → ProceduresStand (operands_of o) o.code.items flows 0
      → length o.code.items ≡ whole_size flows → IsImageOfOutput budget count (Some (places_from 0 flows)) o p
      → budget ≡ path_weight lib known_as main → length (procedures lib known_as main) ≤ most_procedures
      → path_weight lib known_as main ≤ greatest_path → IsShared p
  shared_compiled o p budget stand long made path few short =
      let are : AreProceduresOf p flows = shared_program o p flows stand long budget count made in
      let sound : AreSound p.slots (length flows) 0 flows =
      subst (λ (k : ℕ). AreSound k (length flows) 0 flows) (sym made.slots)
      (shared_sound lib slot known_as main count has) in
      let as_many = flows_long lib slot (main_names known_as) 0 (procedures lib known_as main) in
      record {
        shared = ap version_of made.procedures_are;
        budget = made.budget_is ∙ path;
        well =
            typed_procedures_are_well p flows are (shared_typed lib slot known_as main) sound (omega (
              arith,
              made.slots,
              has.few,
            )) (shared_first lib slot known_as main) (omega (arith, as_many, few))
            (omega (arith, made.budget_is, path, shared_steps lib slot known_as main)) (omega (arith, made.budget_is, path, short));
        outcomes = has_outcome lib slot count has known_as main p are sound;
      }
