-- The code of procedures: an include marks its script and calls the script's procedure, whose code stands once for all
-- includes that share it.
use Rattle.std.specs.Prelude.{ℕ, zero, suc, ◌+◌, List, [], ◌∷◌, Option, Some, None, slice_index}
use Rattle.sieve_meaning.specs.declared.run_fault.RunFault.TheVariants.{NestingTooDeep}
use Rattle.sieve_meaning.specs.Program.{Include, Commands}
use Rattle.sieve_meaning.specs.Meaning.{ScriptName, script_named, is_among, Library, main_names}
use Rattle.sieve_meaning.specs.Weight.{weight, unless_missing, unless_active}
use Rattle.sieve_meaning.specs.Procedures.{Procedure, procedures}
use Rattle.filing_flow.specs.Structure.{SetMark, Fail, CallTo, Flow, action, sequence}
use Rattle.filing_procedures.specs.Slots.{Slots}
use Rattle.filing_procedures.specs.ProcedureCode.{number_of}
use Rattle.filing_gen.specs.BlockCode.{script_flow}
use Rattle.filing_gen.specs.IncludeCode.{including_flow}

-- The call of a procedure by its number among those after the caller's own. Each include that enters a script has a
-- procedure, so that the fault never comes.
abbrev pub call_flow : (own : ℕ) → (number : Option ℕ) → Flow
call_flow own None = action (Fail NestingTooDeep)
call_flow own (Some n) = action (CallTo (own + suc n))

-- the entry of a script where this number of further scripts may be active
abbrev pub call_entry : Library → Slots → (own : ℕ) → (later : List Procedure) → (left : ℕ) → (chain : List ScriptName) →
    ScriptName → Commands → Flow
call_entry lib slot own later zero chain s script = action (Fail NestingTooDeep)
call_entry lib slot own later (suc left) chain s script = sequence (action (SetMark (slot s)))
    (call_flow own (number_of lib later (record { script = script; left = left; chain = s ∷ chain })))

-- an include of the procedure with the number `own`
abbrev pub calling_flow : Library → Slots → (main : List ScriptName) → (own : ℕ) → (later : List Procedure) → Procedure →
    Include → Flow
calling_flow lib slot main own later p i = including_flow lib slot main p.chain
    (call_entry lib slot own later p.left p.chain (script_named i)) i

-- the code of each procedure, to whose end its `return` goes, where the first of these has the number `own`
abbrev pub procedure_flows : Library → Slots → (main : List ScriptName) → (own : ℕ) → List Procedure → List Flow
procedure_flows lib slot main own [] = []
procedure_flows lib slot main own (p ∷ later) = script_flow (calling_flow lib slot main own later p) p.script ∷
    procedure_flows lib slot main (suc own) later

-- of a main script, which may have a name, and of all that it includes
abbrev pub shared_flows : Library → Slots → (known_as : Option (List ℕ)) → Commands → List Flow
shared_flows lib slot known_as main = procedure_flows lib slot (main_names known_as) 0 (procedures lib known_as main)

-- PATHS

-- the path weight of the procedure with a number, by those of the procedures after the caller's
abbrev pub path_at : (paths : List ℕ) → (number : Option ℕ) → ℕ
path_at paths None = 0
path_at paths (Some n) = slice_index paths n

-- what an include adds to the path weight of its procedure, by the path weights of those after it
abbrev pub called_path : Library → (later : List Procedure) → (paths : List ℕ) → (left : ℕ) → (chain : List ScriptName) →
    Include → ℕ
called_path lib later paths zero chain i = 0
called_path lib later paths (suc left) chain i = unless_missing (lib.find (script_named i))
    (λ script. unless_active (is_among chain (script_named i))
    (path_at paths (number_of lib later (record { script = script; left = left; chain = script_named i ∷ chain }))))

-- of each procedure, from the last one on
abbrev pub path_weights : Library → List Procedure → List ℕ
path_weights lib [] = []
path_weights lib (p ∷ later) =
    (weight (called_path lib later (path_weights lib later) p.left p.chain) p.script + 1) ∷ path_weights lib later

-- an include that weighs nothing
abbrev pub no_weight : Include → ℕ
no_weight i = 0
