-- What an include comes to, and the entry of its script, by the number of further scripts that may be active (RFC 6609,
-- section 3.2).
use Rattle.std.specs.Prelude.{ℕ, zero, suc, List, Bool, true, false, Option, Some, None}
use Rattle.sieve_meaning.specs.declared.run_fault.RunFault.{RunFault}
use Rattle.sieve_meaning.specs.declared.run_fault.RunFault.TheVariants.{ScriptMissing, RecursiveInclude, NestingTooDeep}
use Rattle.sieve_meaning.specs.Program.{Include, Commands}
use Rattle.sieve_meaning.specs.Meaning.{ScriptName, script_named, is_among, Library}
use Rattle.sieve_meaning.specs.Weight.{weight, included_weight}
use Rattle.filing_flow.specs.Structure.{SetMark, Fail, Flow, nothing, action, sequence, block}
use Rattle.filing_gen.specs.BlockCode.{flow}
use Rattle.filing_procedures.specs.Slots.{Slots}
use Rattle.filing_gen.specs.IncludeCode.{is_passed, once_flow, included_flow}

-- what an include comes to, as far as it is known when it is compiled
pub data Judgement : Type 0 where
  Passes : Judgement
  Fails : RunFault → Judgement
  Enters : Commands → Judgement

abbrev pub judgement_by : Option Commands → (passed active once : Bool) → Judgement
judgement_by None true active once = Passes
judgement_by None false active once = Fails ScriptMissing
judgement_by (Some script) passed true true = Passes
judgement_by (Some script) passed true false = Fails RecursiveInclude
judgement_by (Some script) passed false once = Enters script

-- A missing script is a fault, unless the include is passed over. An active one is passed over under `:once`, since it
-- was entered, and is a fault otherwise. Any other is entered.
abbrev pub judgement : Library → (main chain : List ScriptName) → Include → Judgement
judgement lib main chain i = judgement_by (lib.find (script_named i)) (is_passed main i)
    (is_among chain (script_named i)) i.once

-- the code of an include by its judgement, where enter gives the entry of a script
abbrev pub judgement_flow : Judgement → (once : Bool) → (slot : ℕ) → (Commands → Flow) → Flow
judgement_flow Passes once slot enter = nothing
judgement_flow (Fails fault) once slot enter = action (Fail fault)
judgement_flow (Enters script) once slot enter = once_flow once slot (enter script)

-- what an include adds to the weight, by its judgement
abbrev pub judgement_weight : Judgement → (Commands → ℕ) → ℕ
judgement_weight Passes enter = 0
judgement_weight (Fails fault) enter = 0
judgement_weight (Enters script) enter = enter script

-- the entry of a script, which is already in the chain
abbrev pub flow_at_level : Library → Slots → (main : List ScriptName) → ℕ → (chain : List ScriptName) → (slot : ℕ) →
    Commands → Flow
flow_at_level lib slots main zero chain slot script = action (Fail NestingTooDeep)
flow_at_level lib slots main (suc left) chain slot script = block
    (sequence (action (SetMark slot)) (flow (included_flow lib slots main left chain) 0 script))

abbrev pub weight_at_level : Library → ℕ → (chain : List ScriptName) → Commands → ℕ
weight_at_level lib zero chain script = 0
weight_at_level lib (suc left) chain script = weight (included_weight lib left chain) script
