-- The main script, its procedures and the findings of the code, in terms of the definitions.
use Rattle.std.specs.Prelude.{◌≡◌, ℕ, ◌<◌, List, map, Option, option_copied}
use Rattle.sieve_syntax.specs.View.{tree_of}
use Rattle.sieve_meaning.specs.Reading.{program_of}
use Rattle.sieve_meaning.specs.Program.{Commands}
use Rattle.sieve_meaning.specs.Meaning.{ScriptName, Library, main_names}
use Rattle.sieve_meaning.specs.Weight.{greatest_weight, linked_weight}
use Rattle.filing_flow.specs.Structure.{Flow}
use Rattle.sieve_library.specs.declared.shelves.Shelves.{Shelves}
use Rattle.sieve_library.specs.BorrowedShelves.{scripts_of, library_on}
use Rattle.filing_procedures.specs.declared.procedure.Procedure.{Procedure}
use Rattle.filing_procedures.specs.ProcedureCode.{procedure_of, AreProcedures}
use Rattle.filing_procedures.specs.Slots.{slots_on}
use Rattle.filing_gen.specs.BlockCode.{script_flow}
use Rattle.filing_gen.specs.Procedures.{calling_flow, procedure_flows}
use Rattle.filing_gen.specs.Levels.{Judgement, Passes, Fails, Enters, flow_at_level}
use Rattle.filing_gen.specs.declared.chain.MainScript.{MainScript}
use Rattle.filing_gen.specs.declared.finding.Finding.{Finding}
use Rattle.filing_gen.specs.declared.finding.Finding.TheVariants.{Pass, Fault, Entry}
use Rattle.filing_gen.specs.declared.finding.Scope.{Scope}

-- the personal name of the main script, if it has one
abbrev pub main_name : MainScript → Option (List ℕ)
main_name m = option_copied m.known_as

-- the main script's name, if it has one
abbrev pub names_of : MainScript → List ScriptName
names_of m = main_names (main_name m)

abbrev pub judgement_of : Finding → Judgement
judgement_of Pass = Passes
judgement_of (Fault fault) = Fails fault
judgement_of (Entry slot script) = Enters (program_of (tree_of script.now))

-- a script that is entered has this slot, which is below 64
abbrev pub EntersAt : Finding → ℕ → Type 0
EntersAt Pass n = Unit {0}
EntersAt (Fault fault) n = Unit {0}
EntersAt (Entry slot script) n = (slot ≡ n) × (slot < 64)

-- the code that enters the script of a slot, where this number of further scripts may be active
abbrev pub flow_of_entry : Scope → (left : ℕ) → (chain : List ScriptName) → (slot : ℕ) → Commands → Flow
flow_of_entry s left chain slot script =
    flow_at_level (library_on s.shelves) (slots_on s.shelves) (names_of s.main) left chain slot script

-- the code of the procedure with the number `own`, by those after it
abbrev pub procedure_flow : Shelves → MainScript → (own : ℕ) → (later : List Procedure) → Procedure → Flow
procedure_flow shelves main own later p =
    script_flow
    (calling_flow (library_on shelves) (slots_on shelves) (names_of main) own (map procedure_of later) (procedure_of p))
    (procedure_of p).script

-- the code of each of all procedures
abbrev pub all_flows : Shelves → MainScript → List Procedure → List Flow
all_flows shelves main ps =
    procedure_flows (library_on shelves) (slots_on shelves) (names_of main) 0 (map procedure_of ps)

-- Something holds of what can be included, of a personal name and of a main script, wherever these are the procedures of
-- that script under that name.
abbrev pub ForMain : Shelves → List Procedure → (Library → Option (List ℕ) → Commands → Type 0) → Type 0
ForMain shelves ps Holds = (known_as : Option (List ℕ)) (script : Commands) →
    AreProcedures (scripts_of shelves) known_as script ps → Holds (library_on shelves) known_as script

-- Something holds of what can be included, of the main script's name and of the script, wherever these are the script's
-- procedures and it weighs more than code without procedures may.
abbrev pub ForHeavyMain : Shelves → MainScript → List Procedure → (Library → Option (List ℕ) → Commands → Type 0) → Type 0
ForHeavyMain shelves main ps Holds = (script : Commands) → AreProcedures (scripts_of shelves) (main_name main) script ps →
    greatest_weight < linked_weight (library_on shelves) (main_name main) script →
    Holds (library_on shelves) (main_name main) script
