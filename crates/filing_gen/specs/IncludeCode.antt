-- The code of includes (RFC 6609, section 3.2). The code of the included script replaces the include, in a block to
-- whose end the script's `return` jumps. Each script that can be included has a slot, which is set when the script is
-- entered.
use Rattle.std.specs.Prelude.{◌≡◌, ℕ, zero, suc, List, ◌∷◌, Bool, true, false, ◌&&◌, ◌||◌, if◌then◌else◌, Option, Some, None, length, slice_index_or}
use Rattle.sieve_meaning.specs.declared.run_fault.RunFault.TheVariants.{ScriptMissing, RecursiveInclude, NestingTooDeep}
use Rattle.sieve_meaning.specs.Program.{Include, Commands}
use Rattle.sieve_meaning.specs.Meaning.{ScriptName, script_named, is_among, Library, main_names}
use Rattle.filing_flow.specs.Structure.{IsMarked, SetMark, Fail, Flow, nothing, action, sequence, block, leave_if}
use Rattle.filing_procedures.specs.Slots.{Slots}
use Rattle.filing_gen.specs.BlockCode.{flow}

-- under `:once`, no code is run where the script was entered
abbrev pub once_flow : Bool → ℕ → Flow → Flow
once_flow true slot a = block (sequence (action (IsMarked slot)) (sequence (leave_if true 0) a))
once_flow false slot a = a

-- an active script: nothing under `:once`, since it was entered, and a fault otherwise
abbrev pub active_flow : Bool → Bool → Flow → Flow
active_flow true once a = if once then nothing else action (Fail RecursiveInclude)
active_flow false once a = a

abbrev pub found_flow : Option Commands → Bool → (Commands → Flow) → Flow
found_flow None passed go = if passed then nothing else action (Fail ScriptMissing)
found_flow (Some script) passed go = go script

-- whether an include whose script is missing does nothing: it is `:optional`, or it is `:once` and names the main
-- script, which was entered
abbrev pub is_passed : (main : List ScriptName) → Include → Bool
is_passed main i = (i.once && is_among main (script_named i)) || i.optional

-- the code of an include, where enter gives the entry of a script
abbrev pub including_flow : Library → Slots → (main chain : List ScriptName) → (Commands → Flow) → Include → Flow
including_flow lib slot main chain enter i =
    found_flow (lib.find (script_named i)) (is_passed main i)
    (λ script. active_flow (is_among chain (script_named i)) i.once
    (once_flow i.once (slot (script_named i)) (enter script)))

-- the code of an include, where this number of further scripts may be active
abbrev pub included_flow : Library → Slots → (main : List ScriptName) → ℕ → (chain : List ScriptName) → Include → Flow
included_flow lib slot main zero chain i = including_flow lib slot main chain (λ script. action (Fail NestingTooDeep)) i
included_flow lib slot main (suc left) chain i =
    including_flow lib slot main chain
    (λ script. block (sequence (action (SetMark (slot (script_named i))))
    (flow (included_flow lib slot main left (script_named i ∷ chain)) 0 script))) i

-- the includes of a main script, which may have a name; eight scripts may be active, the main one among them
abbrev pub linked_flow : Library → Slots → (known_as : Option (List ℕ)) → Include → Flow
linked_flow lib slot known_as i = included_flow lib slot (main_names known_as) 7 (main_names known_as) i

-- The marks say which scripts of the library were entered. The main script, which has no mark, and all active ones
-- were.
pub record MarksEntries (lib : Library) (slot : Slots) (main chain entered : List ScriptName)
    (marks : List Bool) : Type 0 where
  pub long : length marks ≡ 64
  pub active : (s : ScriptName) → is_among chain s ≡ true → is_among entered s ≡ true
  pub found : (s : ScriptName) (x : Commands) → lib.find s ≡ Some x → is_among main s ≡ false →
      slice_index_or marks (slot s) false ≡ is_among entered s
  pub missing : (s : ScriptName) → lib.find s ≡ None → is_among entered s ≡ is_among main s
