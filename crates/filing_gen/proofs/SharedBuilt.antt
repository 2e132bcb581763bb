-- What is known of a main script and its image, by its procedures.
use Rattle.std.proofs.Common.{◌≡◌, ◌<◌, ◌≤◌, ℕ, List, Option, Some, true, false, length, map, sym, ap, ◌∙◌, subst, arith}
use Rattle.std.proofs.lemmas.List.{length-map}
use Rattle.filing_image.specs.Program.{Program, version_of}
use Rattle.filing_image.specs.declared.version.Version.TheVariants.{One, Two}
use Rattle.sieve_meaning.specs.Program.{Commands}
use Rattle.sieve_meaning.specs.Meaning.{Library, main_names}
use Rattle.sieve_meaning.specs.Weight.{greatest_weight, linked_weight}
use Rattle.sieve_meaning.specs.Procedures.{Procedure, procedures, shared_weight, path_weight, most_procedures, greatest_path}
use Rattle.sieve_meaning.specs.TooHeavy.{is_too_heavy}
use Rattle.sieve_meaning.proofs.OutcomeLaws.{heavy_by_procedures, budget_by_path}
use Rattle.sieve_library.specs.Libraries.{Scripts, library_of}
use Rattle.filing_procedures.specs.Slots.{slots_of, HasSlots}
use Rattle.filing_procedures.specs.ProcedureCode.{procedure_of, AreProcedures}
use Rattle.filing_procedures.specs.declared.procedure.Procedure as code
use Rattle.filing_gen.specs.Adds.{HasRoom, IsImageOfOutput}
use Rattle.filing_flow.specs.Compiled.{IsCompiled}
use Rattle.filing_gen.specs.Procedures.{procedure_flows, shared_flows}
use Rattle.filing_gen.specs.SharedCode.{IsSharedCode}
use Rattle.filing_gen.specs.declared.output.Output.{Output}
use Rattle.filing_gen.proofs.ProcedureSizes.{procedures_small}
use Rattle.filing_gen.proofs.SharedCompiled.{too_many, too_heavy, too_long, not_beyond, IsShared, shared_compiled}

two_is_not_one : (firsts : Option (List ℕ)) → version_of firsts ≡ Two → version_of firsts ≡ One → ⊥
two_is_not_one firsts two one = cc (two, one)

module _ (l : Scripts) (known_as : Option (List ℕ)) (main : Commands) where
  abbrev lib : Library
  lib = library_of l

  module _ (over : greatest_weight < linked_weight lib known_as main) where
    pub heavy_by_many : most_procedures < length (procedures lib known_as main) → is_too_heavy lib known_as main ≡ true
    heavy_by_many more = heavy_by_procedures lib known_as main over ∙ too_many (procedures lib known_as main) (path_weight lib known_as main) more

    pub heavy_by_path : greatest_path < path_weight lib known_as main → is_too_heavy lib known_as main ≡ true
    heavy_by_path more = heavy_by_procedures lib known_as main over ∙ too_long (procedures lib known_as main) (path_weight lib known_as main) more

  pub few_written : (ps : List code.Procedure) (o : Output) (places : List ℕ)
      → IsSharedCode o places (procedure_flows lib (slots_of l) (main_names known_as) 0 (map procedure_of ps))
      → shared_weight (map procedure_of ps) ≤ greatest_weight → HasRoom o 0
  few_written ps o places written light =
      let small = procedures_small lib (slots_of l) (main_names known_as) 0 (map procedure_of ps) in
      (omega (arith, written.long, small, light), omega (arith, written.texts, small, light), omega (arith, written.numbers, small, light))

  module _ (ps : List code.Procedure) (are : AreProcedures l known_as main ps) where
    as_many : length (procedures lib known_as main) ≡ length ps
    as_many = sym (ap length are.are) ∙ length-map ps procedure_of

    weighs : shared_weight (map procedure_of ps) ≡ shared_weight (procedures lib known_as main)
    weighs = ap (λ (qs : List Procedure). shared_weight qs) are.are

    module _ (over : greatest_weight < linked_weight lib known_as main) where
      pub heavy_by_code : greatest_weight < shared_weight (map procedure_of ps) → is_too_heavy lib known_as main ≡ true
      heavy_by_code more = heavy_by_procedures lib known_as main over
          ∙ too_heavy (procedures lib known_as main) (path_weight lib known_as main) (omega (arith, more, weighs))

      pub light_by_all : length ps ≤ most_procedures → shared_weight (map procedure_of ps) ≤ greatest_weight
          → path_weight lib known_as main ≤ greatest_path → is_too_heavy lib known_as main ≡ false
      light_by_all few light short =
          heavy_by_procedures lib known_as main over
          ∙ not_beyond (procedures lib known_as main) (path_weight lib known_as main) (omega (arith, few, as_many))
          (omega (arith, light, weighs)) short

    module _ (count : ℕ) (has : HasSlots lib (slots_of l) count) (o : Output) (p : Program) (budget : ℕ) (places : List ℕ) where
      pub shared_image : IsSharedCode o places (procedure_flows lib (slots_of l) (main_names known_as) 0
          (map procedure_of ps)) → IsImageOfOutput budget count (Some places) o p → (budget ≡ path_weight lib known_as main)
          × (budget ≤ greatest_path) → length ps ≤ most_procedures
          → IsShared lib (slots_of l) count has known_as main p
      shared_image written made path few =
          let code : IsSharedCode o places (shared_flows lib (slots_of l) known_as main) =
          subst (λ (qs : List Procedure).
          IsSharedCode o places (procedure_flows lib (slots_of l) (main_names known_as) 0 qs)) are.are written in
          shared_compiled lib (slots_of l) count has known_as main o p budget code.stand code.long
          (subst (λ (ns : List ℕ). IsImageOfOutput budget count (Some ns) o p) code.places made) path.0 (omega (
            arith,
            few,
            as_many,
          )) (omega (arith, path.0, path.1))

      pub compiled_image : greatest_weight < linked_weight lib known_as main
          → IsShared lib (slots_of l) count has known_as main p → IsCompiled lib known_as main p
      compiled_image over s =
          record {
            version = (
              λ one. absurd (two_is_not_one p.procedures s.shared one),
              λ light.
                  absurd (omega (arith, over, light)),
            );
            budget = s.budget ∙ sym (budget_by_path lib known_as main over);
            well =
                s.well;
            outcomes = s.outcomes;
          }
