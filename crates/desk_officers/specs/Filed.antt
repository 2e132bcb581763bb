-- The image of the script that a message was last filed by.
use Rattle.std.specs.Prelude.{ℕ, ◌≤◌, List, [], length, Option, Some, None}
use Rattle.sieve_syntax.specs.Tree.{CommandTrees}
use Rattle.sieve_meaning.specs.Reading.{program_of}
use Rattle.sieve_meaning.specs.TooHeavy.{IsTooHeavy}
use Rattle.sieve_library.specs.Libraries.{NamedScript}
use Rattle.filing_image.specs.Program.{Program}
use Rattle.filing_flow.specs.Compiled.{IsCompiled}
use Rattle.desk_commands.specs.Limits.{greatest_script}
use Rattle.desk_commands.specs.Parts.{IsGood}
use Rattle.desk_commands.specs.Scripts.{library, meanings_of}
use Rattle.desk_officers.specs.declared.filed.FiledScript.{FiledScript}

-- What compiling a script of these octets answers with those global scripts: the octets are a script within its limit
-- whose tree is well made, it is not too heavy, and this is an image of it. It has no name, and there is no personal
-- script.
pub record IsImageNow (globals : List NamedScript) (text : List ℕ) (image : Program) : Type 0 where
  pub short : length text ≤ greatest_script
  pub tree : CommandTrees
  pub good : IsGood text tree
  pub light : IsTooHeavy (library [] (meanings_of globals)) None (program_of tree) → ⊥
  pub compiled : IsCompiled (library [] (meanings_of globals)) None (program_of tree) image

-- Where a script is kept, its image is what compiling its octets answers now.
abbrev pub KeepsImageNow : (globals : List NamedScript) → Option FiledScript → Type 0
KeepsImageNow globals None = Unit {0}
KeepsImageNow globals (Some f) = IsImageNow globals f.text.items f.image
