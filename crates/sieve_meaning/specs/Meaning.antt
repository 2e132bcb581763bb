-- What a run of a script does (RFC 5228, sections 2.10 and 4; RFC 3894; RFC 6609, section 3).
use Rattle.std.specs.Prelude.{ℕ, zero, suc, List, [], ◌∷◌, Bool, true, false, not, ◌&&◌, ◌||◌, if◌then◌else◌, Option, Some, None}
use Rattle.std.specs.List.{list_any}
use Rattle.std.specs.Str.{bytes_eq}
use Rattle.class_paths.specs.Paths.{Paths, insert_path}
use Rattle.sieve_meaning.specs.Case.{Facts}
use Rattle.sieve_meaning.specs.declared.run_fault.RunFault.{RunFault}
use Rattle.sieve_meaning.specs.declared.run_fault.RunFault.TheVariants.{ClassNotOpen, ScriptMissing, RecursiveInclude, NestingTooDeep}
use Rattle.sieve_meaning.specs.Truth.{truth}
use Rattle.sieve_meaning.specs.Program.{Include, Command, require, keep, discard, stop, return, file_into, branch, include, Commands, no_command, command_then, Branches, no_branch, otherwise, if_then}

-- a script by its location and name
pub record ScriptName : Type 0 where
  pub global : Bool
  pub name : List ℕ

abbrev pub same_bool : Bool → Bool → Bool
same_bool true b = b
same_bool false b = not b

abbrev pub same_script : ScriptName → ScriptName → Bool
same_script a b = same_bool a.global b.global && bytes_eq a.name b.name

-- what a run has done so far
pub record Filing : Type 0 where
  pub filed : Paths
  pub kept : Bool
  pub cancelled : Bool
  -- the scripts that were entered, the main one too where it has a name
  pub entered : List ScriptName

pub data Ending : Type 0 where
  GoesOn : Filing → Ending
  Returns : Filing → Ending
  Stops : Filing → Ending
  Faults : RunFault → Filing → Ending

abbrev pub and_then : Ending → (Filing → Ending) → Ending
and_then (GoesOn f) go = go f
and_then (Returns f) go = Returns f
and_then (Stops f) go = Stops f
and_then (Faults fault f) go = Faults fault f

-- `fileinto`: only a copy leaves the implicit keep in force (RFC 3894, section 3); a path that is not open is a fault
abbrev pub filing : Facts → Bool → List ℕ → Filing → Ending
filing facts copy path f = if facts.is_open path
    then GoesOn (record f { filed = insert_path path f.filed; cancelled = f.cancelled || not copy }) else Faults ClassNotOpen f

-- what an `include` does
abbrev pub Included : Type 0
Included = Include → Filing → Ending

abbrev mutual
  pub run : Facts → Included → Commands → Filing → Ending
  run facts inc no_command f = GoesOn f
  run facts inc (command_then x xs) f = and_then (run_one facts inc x f) (run facts inc xs)

  pub run_one : Facts → Included → Command → Filing → Ending
  run_one facts inc require f = GoesOn f
  run_one facts inc keep f = GoesOn (record f { kept = true })
  run_one facts inc discard f = GoesOn (record f { cancelled = true })
  run_one facts inc stop f = Stops f
  run_one facts inc return f = Returns f
  run_one facts inc (file_into copy path) f = filing facts copy path f
  run_one facts inc (branch bs) f = run_branches facts inc bs f
  run_one facts inc (include n) f = inc n f

  -- the block of the first branch whose test is true (RFC 5228, section 3.1)
  pub run_branches : Facts → Included → Branches → Filing → Ending
  run_branches facts inc no_branch f = GoesOn f
  run_branches facts inc (otherwise xs) f = run facts inc xs f
  run_branches facts inc (if_then t xs bs) f = if truth facts t then run facts inc xs f else run_branches facts inc bs f

-- the scripts that can be included, by name
pub record Library : Type 0 where
  pub find : ScriptName → Option Commands

abbrev pub script_named : Include → ScriptName
script_named n = record { global = n.global; name = n.name }

abbrev pub is_among : List ScriptName → ScriptName → Bool
is_among names s = list_any (same_script s) names

-- a `return` ends the included script alone (RFC 6609, section 3.3)
abbrev pub ending_of_include : Ending → Ending
ending_of_include (Returns f) = GoesOn f
ending_of_include (GoesOn f) = GoesOn f
ending_of_include (Stops f) = Stops f
ending_of_include (Faults fault f) = Faults fault f

abbrev pub with_entry : ScriptName → Filing → Filing
with_entry s f = record f { entered = s ∷ f.entered }

abbrev pub unless_missing : Option Commands → Bool → (Commands → Filing → Ending) → Filing → Ending
unless_missing None optional go f = if optional then GoesOn f else Faults ScriptMissing f
unless_missing (Some script) optional go f = go script f

abbrev pub unless_active : Bool → (Filing → Ending) → Filing → Ending
unless_active true go f = Faults RecursiveInclude f
unless_active false go f = go f

abbrev pub unless_entered : Bool → (Filing → Ending) → Filing → Ending
unless_entered true go f = GoesOn f
unless_entered false go f = go f

-- How an `include` is judged, in this order. Under `:once`, a script that was entered before does nothing. A missing
-- script does nothing under `:optional`, and is a fault otherwise. An active script is a fault. Any other is entered.
abbrev pub inclusion : Library → (chain : List ScriptName) → (Commands → Filing → Ending) → Included
inclusion lib chain enter n f = unless_entered (n.once &&
    is_among f.entered (script_named n))
    (unless_missing (lib.find (script_named n)) n.optional
    (λ script. unless_active (is_among chain (script_named n)) (enter script))) f

-- An `include`, given how many further scripts may be active, and the names of the active ones that have one. If no
-- further script may be active, entering a script is a fault.
abbrev pub inclusion_within : Facts → Library → ℕ → (chain : List ScriptName) → Included
inclusion_within facts lib zero chain n = inclusion lib chain (λ script f. Faults NestingTooDeep f) n
inclusion_within facts lib (suc left) chain n = inclusion lib chain
    (λ script f. ending_of_include (run facts (inclusion_within facts lib left (script_named n ∷ chain)) script
    (with_entry (script_named n) f))) n

-- the main script's personal name, if it has one
abbrev pub main_names : Option (List ℕ) → List ScriptName
main_names None = []
main_names (Some name) = record { global = false; name = name } ∷ []

-- nothing is filed and no flag is set; the main script was entered
abbrev pub opening : Option (List ℕ) → Filing
opening known_as = record { filed = []; kept = false; cancelled = false; entered = main_names known_as }

-- the run of a main script; eight scripts may be active, the main one included
abbrev pub meaning : Facts → Library → (known_as : Option (List ℕ)) → Commands → Ending
meaning facts lib known_as main = run facts (inclusion_within facts lib 7 (main_names known_as)) main (opening known_as)

-- no script can be included
abbrev pub no_library : Library
no_library = record { find = λ s. None }
