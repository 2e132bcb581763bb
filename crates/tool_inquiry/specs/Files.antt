-- Scripts of files.
use Rattle.std.specs.Prelude.{◌≡◌, ℕ, List, None, string_bytes}
use Rattle.sieve_syntax.specs.Tree.{CommandTrees}
use Rattle.sieve_syntax.specs.View.{tree_of}
use Rattle.sieve_syntax.specs.declared.tree.Script.{Script}
use Rattle.sieve_text.specs.Grammar.{IsScript}
use Rattle.sieve_check.specs.Rules.{refusal_of}
use Rattle.sieve_meaning.specs.declared.scripts.Location.{Location}
use Rattle.tool_inquiry.specs.declared.scripts.ScriptFile.{ScriptFile}

-- a text is a script whose tree is well made, as a session takes it
pub record IsGood (text : List ℕ) (tree : CommandTrees) : Type 0 where
  pub is_script : IsScript text tree
  pub well_made : refusal_of tree ≡ None

-- a text is no such script
abbrev pub IsNotGood : (text : List ℕ) → Type 0
IsNotGood text = (tree : CommandTrees) → IsGood text tree → ⊥

-- the tree of a file's text
abbrev pub script_in : ScriptFile → Script
script_in f = f.script.value.script

-- the good script of a file of this path, location and text
pub record IsFileOf (path : List ℕ) (location : Location) (text : List ℕ) (f : ScriptFile) : Type 0 where
  pub path_is : string_bytes f.path ≡ path
  pub location_is : f.location ≡ location
  pub text_is : f.text.items ≡ text
  pub is_good : IsGood text (tree_of (script_in f))
