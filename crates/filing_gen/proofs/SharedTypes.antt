-- The code of all procedures has types and sound operands, and is no longer than the shared weight.
use Rattle.std.proofs.Common.{◌≡◌, ℕ, suc, ◌≤◌, List, [], ◌∷◌, Option, length, refl, ap, arith}
use Rattle.sieve_meaning.specs.Program.{Commands}
use Rattle.sieve_meaning.specs.Meaning.{ScriptName, main_names, Library}
use Rattle.sieve_meaning.specs.Procedures.{Procedure, procedures, shared_weight}
use Rattle.sieve_meaning.proofs.ProcedureLemmas.{procedures_are}
use Rattle.filing_flow.specs.Procedures.{AreSound, AreTyped, whole_size}
use Rattle.filing_procedures.specs.Slots.{Slots, HasSlots}
use Rattle.filing_gen.specs.Procedures.{procedure_flows, shared_flows}
use Rattle.filing_gen.proofs.ProcedureSizes.{procedures_small}
use Rattle.filing_gen.proofs.ProcedureTypes.{procedures_typed, procedures_sound}

-- the code of each procedure
pub flows_long : (lib : Library) (slot : Slots) (main : List ScriptName) (own : ℕ) (ps : List Procedure)
    → length (procedure_flows lib slot main own ps) ≡ length ps
flows_long lib slot main own [] = refl
flows_long lib slot main own (p ∷ ps) = ap suc (flows_long lib slot main (suc own) ps)

module _ (lib : Library) (slot : Slots) (known_as : Option (List ℕ)) (main : Commands) where
  -- the main script is there
  pub shared_first : 1 ≤ length (shared_flows lib slot known_as main)
  shared_first = omega (
    arith,
    flows_long lib slot (main_names known_as) 0 (procedures lib known_as main),
    ap (λ (ps : List Procedure). length ps) (procedures_are lib known_as main),
  )

  pub shared_typed : AreTyped (shared_flows lib slot known_as main)
  shared_typed = procedures_typed lib slot (main_names known_as) 0 (procedures lib known_as main)

  pub shared_sound : (count : ℕ) → HasSlots lib slot count
      → AreSound count (length (shared_flows lib slot known_as main)) 0 (shared_flows lib slot known_as main)
  shared_sound count has =
      let as_many = flows_long lib slot (main_names known_as) 0 (procedures lib known_as main) in
      procedures_sound lib slot (main_names known_as) count (length (shared_flows lib slot known_as main)) 0
      (procedures lib known_as main) has (omega (arith, as_many))

  pub shared_small : whole_size (shared_flows lib slot known_as main) ≤ shared_weight (procedures lib known_as main)
  shared_small = procedures_small lib slot (main_names known_as) 0 (procedures lib known_as main)
