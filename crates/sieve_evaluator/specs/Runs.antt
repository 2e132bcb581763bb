-- Runs of a script as the evaluator walks over its commands. What an include does is a parameter.
use Rattle.std.specs.Prelude.{◌≡◌, ℕ, zero, suc, List, ◌∷◌, map, Bool, true, false, codes, if◌then◌else◌, Option, Some, None}
use Rattle.sieve_syntax.specs.Tree.{CommandTree, command, CommandTrees, no_commands, command_then, EndingTree, semicolon, block}
use Rattle.sieve_syntax.specs.declared.tree.Argument.{Argument}
use Rattle.sieve_meaning.specs.declared.run_fault.RunFault.{RunFault}
use Rattle.sieve_meaning.specs.declared.run_fault.RunFault.TheVariants.{ScriptMissing, NestingTooDeep}
use Rattle.sieve_meaning.specs.Case.{Facts}
use Rattle.sieve_meaning.specs.declared.words.CommandWord.{CommandWord}
use Rattle.sieve_meaning.specs.declared.words.CommandWord.TheVariants as words
use Rattle.sieve_meaning.specs.Program.{Include, Test, Commands, Branches}
use Rattle.sieve_meaning.specs.Truth.{truth}
use Rattle.sieve_meaning.specs.Reading.{only_in, block_in, command_named, program_of, branches_of, string_lists, first_string, has_tag}
use Rattle.sieve_meaning.specs.Meaning.{ScriptName, script_named, Library, Included, inclusion_within, run, run_branches, and_then, filing, ending_of_include, with_entry}
use Rattle.sieve_meaning.specs.Meaning as meaning
use Rattle.sieve_library.specs.BorrowedShelves.{scripts_of, library_on}
use Rattle.sieve_library.specs.Libraries.{library_of}
use Rattle.sieve_evaluator.specs.Case.{facts_of}
use Rattle.sieve_meaning.specs.Scripts.{script_of}
use Rattle.sieve_evaluator.specs.declared.filing.Filing.{Filing}
use Rattle.sieve_evaluator.specs.declared.filing.Ending.{Ending}
use Rattle.sieve_evaluator.specs.declared.filing.Ending.TheVariants as endings
use Rattle.sieve_evaluator.specs.declared.scope.Scope.{Scope}

-- what the code's state of a run means
abbrev pub filing_of : Filing → meaning.Filing
filing_of f = record { filed = f.filed; kept = f.kept; cancelled = f.cancelled; entered = map script_of f.entered.items }

abbrev pub ending_at : Ending → Filing → meaning.Ending
ending_at endings.GoesOn f = meaning.GoesOn (filing_of f)
ending_at endings.Returns f = meaning.Returns (filing_of f)
ending_at endings.Stops f = meaning.Stops (filing_of f)
ending_at (endings.Faults fault) f = meaning.Faults fault (filing_of f)

-- the fault that a run ended with
abbrev pub fault_of : Ending → Option RunFault
fault_of endings.GoesOn = None
fault_of endings.Returns = None
fault_of endings.Stops = None
fault_of (endings.Faults fault) = Some fault

-- what an `include` does in a scope where the number of further scripts that may be active is given (RFC 6609, section
-- 3.2)
abbrev pub includes_at : ℕ → Scope → Included
includes_at left s = inclusion_within (facts_of s.case.now) (library_of (scripts_of s.shelves)) left (map script_of s.chain.now)

-- what a run can learn of the message in a scope
abbrev pub facts_at : Scope → Facts
facts_at s = facts_of s.case.now

-- a script that an include enters after the active ones; without a further level it is a fault
abbrev pub entry_ending : Facts → Library → ℕ → (chain : List ScriptName) → Include → Commands → meaning.Filing →
    meaning.Ending
entry_ending facts lib zero chain i script f = meaning.Faults NestingTooDeep f
entry_ending facts lib (suc left) chain i script f = ending_of_include
    (run facts (inclusion_within facts lib left (script_named i ∷ chain)) script (with_entry (script_named i) f))

-- the same in a scope
abbrev pub entry_at : ℕ → Scope → Include → Commands → meaning.Filing → meaning.Ending
entry_at left s i script f =
    entry_ending (facts_at s) (library_on s.shelves) left (map script_of s.chain.now) i script f

-- an include whose script is missing: nothing where it is optional (RFC 6609, section 3.2), otherwise a fault
abbrev pub missing_ending : (optional : Bool) → meaning.Filing → meaning.Ending
missing_ending optional f = if optional then meaning.GoesOn f else meaning.Faults ScriptMissing f

-- commands run in order; an `elsif` or `else` at their front is open where no test of the branches before it was true,
-- and is otherwise passed over
unfoldable pub runs_from : Facts → Included → (is_open : Bool) → CommandTrees → meaning.Filing → meaning.Ending
runs_from facts inc true cs f = and_then (run_branches facts inc (branches_of cs) f) (run facts inc (program_of cs))
runs_from facts inc false cs f = run facts inc (program_of cs) f

-- the same in a scope where this number of further scripts may be active
abbrev pub runs_at_level : ℕ → Scope → (is_open : Bool) → CommandTrees → meaning.Filing → meaning.Ending
runs_at_level left s is_open cs f = runs_from (facts_at s) (includes_at left s) is_open cs f

-- `fileinto` with these arguments (RFC 5228, section 4.1; RFC 3894)
abbrev pub filing_into : Facts → List Argument → meaning.Filing → meaning.Ending
filing_into facts args f = filing facts (has_tag (codes "copy") args) (first_string (string_lists false args)) f

-- any command but `if`, which needs its test and block
abbrev pub IsNoIf : CommandWord → Type 0
IsNoIf words.If = ⊥
IsNoIf word = Unit {0}

-- a command with this word and these arguments has this ending, whatever test, block, branches and further commands
-- stand with it; an `elsif` or `else` is passed over
abbrev pub PlainlyEnds : Facts → Included → CommandWord → List Argument → meaning.Filing → meaning.Ending → Type 0
PlainlyEnds facts inc word args f e = (t : Test) (inner : Commands) (rest : Branches) (more : Commands) →
    run facts inc (command_named word args t inner rest more) f ≡ and_then e (run facts inc more)

-- a command before further ones has this ending, and leaves the branches after it open or not
abbrev pub Ends : Facts → Included → Bool → CommandTree → meaning.Filing → meaning.Ending → Bool → Type 0
Ends facts inc is_open c f e opens = (more : CommandTrees) →
    runs_from facts inc is_open (command_then c more) f ≡ and_then e (runs_from facts inc opens more)

abbrev pub commands_in : EndingTree → CommandTrees
commands_in semicolon = no_commands
commands_in (block cs) = cs

-- a test, and a block that is run where the test is true, have this ending
abbrev pub BranchEnds : Facts → Included → CommandTree → meaning.Filing → meaning.Ending → Bool → Type 0
BranchEnds facts inc (command name args inner finish) f e opens = (more : CommandTrees) →
    (if truth facts (only_in inner) then and_then (run facts inc (block_in finish) f) (runs_from facts inc false more)
    else runs_from facts inc true more f) ≡ and_then e (runs_from facts inc opens more)

-- These three say the same in a scope where a number of further scripts may be active.

abbrev pub PlainlyEndsAt : ℕ → Scope → CommandWord → List Argument → meaning.Filing → meaning.Ending → Type 0
PlainlyEndsAt left s word args f e = PlainlyEnds (facts_at s) (includes_at left s) word args f e

abbrev pub EndsAt : ℕ → Scope → Bool → CommandTree → meaning.Filing → meaning.Ending → Bool → Type 0
EndsAt left s is_open c f e opens = Ends (facts_at s) (includes_at left s) is_open c f e opens

abbrev pub BranchEndsAt : ℕ → Scope → CommandTree → meaning.Filing → meaning.Ending → Bool → Type 0
BranchEndsAt left s c f e opens = BranchEnds (facts_at s) (includes_at left s) c f e opens
