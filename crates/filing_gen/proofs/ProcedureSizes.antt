-- The code of a procedure takes at most as many operations as the procedure weighs by itself, and all code the shared weight.
use Rattle.std.proofs.Common.{◌≡◌, ℕ, zero, suc, ◌+◌, ◌≤◌, List, [], ◌∷◌, Option, Some, None, refl, arith}
use Rattle.sieve_meaning.specs.Program.{Commands}
use Rattle.sieve_meaning.specs.Meaning.{ScriptName, script_named, is_among, Library}
use Rattle.sieve_meaning.specs.Procedures.{Procedure, own_weight, shared_weight}
use Rattle.filing_flow.specs.Structure.{size}
use Rattle.filing_flow.specs.Procedures.{whole_size}
use Rattle.filing_gen.specs.BlockCode.{script_flow}
use Rattle.filing_procedures.specs.Slots.{Slots}
use Rattle.filing_procedures.specs.ProcedureCode.{number_of}
use Rattle.filing_gen.specs.Procedures.{call_flow, call_entry, calling_flow, procedure_flows}
use Rattle.filing_gen.proofs.IncludesTypes.{including_small, nothing_there}
use Rattle.filing_gen.proofs.Types.{flow_small, IncludesSmall}

module _ (lib : Library) (slot : Slots) (main : List ScriptName) (own : ℕ) where
  call_single : (number : Option ℕ) → size (call_flow own number) ≡ 1
  call_single None = refl
  call_single (Some n) = refl

  entry_small : (later : List Procedure) (left : ℕ) (chain : List ScriptName) (s : ScriptName) (x : Commands)
      → size (call_entry lib slot own later left chain s x) ≤ 2 + 0
  entry_small later zero chain s x = omega arith
  entry_small later (suc left) chain s x = let one =
      call_single (number_of lib later (record { script = x; left = left; chain = s ∷ chain })) in omega (arith, one)

  calling_small : (later : List Procedure) (p : Procedure) → IncludesSmall (calling_flow lib slot main own later p) (λ i. 0)
  calling_small later p i =
      let s = script_named i in
      let h = including_small lib slot main p.chain (call_entry lib slot own later p.left p.chain s) (λ x.
      0) i (entry_small later p.left p.chain s) in
      let none = nothing_there (lib.find s) (is_among p.chain s) in
      omega (arith, h, none)

  pub procedure_small : (later : List Procedure) (p : Procedure)
      → size (script_flow (calling_flow lib slot main own later p) p.script) + 1 ≤ own_weight p.script
  procedure_small later p = let h = flow_small (calling_flow lib slot main own later p) (λ i.
      0) (calling_small later p) 0 p.script in omega (arith, h)

module _ (lib : Library) (slot : Slots) (main : List ScriptName) where
  pub procedures_small : (own : ℕ) (ps : List Procedure) → whole_size (procedure_flows lib slot main own ps) ≤ shared_weight ps
  procedures_small own [] = omega arith
  procedures_small own (p ∷ ps) = let one = procedure_small lib slot main own ps p in let rest =
      procedures_small (suc own) ps in omega (arith, one, rest)
