-- The names of the scripts that a script includes, as they are gathered from left to right.
use Rattle.std.specs.Prelude.{List, [], ◌∷◌, ◌++◌, filter, Bool, true, false, not, ◌&&◌, if◌then◌else◌}
use Rattle.std.specs.List.{list_any}
use Rattle.sieve_syntax.specs.Tree.{CommandTree, command, CommandTrees}
use Rattle.sieve_syntax.specs.declared.tree.Argument.{Argument}
use Rattle.sieve_meaning.specs.declared.words.CommandWord.{CommandWord}
use Rattle.sieve_meaning.specs.declared.words.CommandWord.TheVariants as words
use Rattle.sieve_meaning.specs.declared.branches.BranchPart.{BranchPart}
use Rattle.sieve_meaning.specs.declared.branches.BranchPart.TheVariants.{Branch, Otherwise, Plain}
use Rattle.sieve_meaning.specs.Words.{command_word}
use Rattle.sieve_meaning.specs.Program.{Command, require, keep, discard, stop, return, file_into, branch, include, Commands, no_command, command_then, Branches, no_branch, otherwise, if_then}
use Rattle.sieve_meaning.specs.Reading.{block_in, program_of, branches_of, include_of}
use Rattle.sieve_meaning.specs.Meaning.{Library, ScriptName, script_named, same_script}
use Rattle.sieve_meaning.specs.Procedures.{holds_if_there, included_names}

-- whether the script of a name is there
abbrev pub is_there : Library → ScriptName → Bool
is_there lib s = holds_if_there (lib.find s) (λ script. true)

-- the names of the scripts that a script includes and that are there, each once
abbrev pub names_there : Library → Commands → List ScriptName
names_there lib script = filter (is_there lib) (included_names script)

-- these names and one more, where its script is there and it is none of them
abbrev pub with_name : Library → List ScriptName → ScriptName → List ScriptName
with_name lib names s = if is_there lib s && not (list_any (λ t. same_script t s) names) then names ++ s ∷ [] else names

-- these names and those that commands include
abbrev mutual
  pub with_included : Library → Commands → List ScriptName → List ScriptName
  with_included lib no_command names = names
  with_included lib (command_then x xs) names = with_included lib xs (with_one lib x names)

  pub with_one : Library → Command → List ScriptName → List ScriptName
  with_one lib require names = names
  with_one lib keep names = names
  with_one lib discard names = names
  with_one lib stop names = names
  with_one lib return names = names
  with_one lib (file_into copy path) names = names
  with_one lib (branch bs) names = with_branches lib bs names
  with_one lib (include i) names = with_name lib names (script_named i)

  pub with_branches : Library → Branches → List ScriptName → List ScriptName
  with_branches lib no_branch names = names
  with_branches lib (otherwise xs) names = with_included lib xs names
  with_branches lib (if_then t xs bs) names = with_branches lib bs (with_included lib xs names)

-- these names and that which a command includes that has no block
abbrev pub with_plain : Library → CommandWord → List Argument → List ScriptName → List ScriptName
with_plain lib words.Include args names = with_name lib names (script_named (include_of args))
with_plain lib word args names = names

-- these names and those that a command includes, by its part
abbrev pub with_part : Library → BranchPart → CommandTree → List ScriptName → List ScriptName
with_part lib Branch (command name args inner finish) names = with_included lib (block_in finish) names
with_part lib Otherwise (command name args inner finish) names = with_included lib (block_in finish) names
with_part lib Plain (command name args inner finish) names = with_plain lib (command_word name) args names

-- these names and those of commands; where branches are open, also those of the branches at their beginning that
-- continue them
abbrev pub with_rest : Library → (is_open : Bool) → CommandTrees → List ScriptName → List ScriptName
with_rest lib true cs names = with_included lib (program_of cs) (with_branches lib (branches_of cs) names)
with_rest lib false cs names = with_included lib (program_of cs) names
