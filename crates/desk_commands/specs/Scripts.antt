-- Named scripts, by what they mean.
use Rattle.std.specs.Prelude.{◌≡◌, ℕ, List, [], ◌∷◌, length, map, Bool, true, false, if◌then◌else◌, Option, Some, None}
use Rattle.std.specs.Str.{bytes_eq}
use Rattle.sieve_syntax.specs.View.{tree_of}
use Rattle.sieve_meaning.specs.Program.{Commands}
use Rattle.sieve_meaning.specs.Meaning.{Library}
use Rattle.sieve_meaning.specs.Reading.{program_of}
use Rattle.sieve_library.specs.Libraries.{NamedScript, most_scripts}

-- the script at a name; a location (RFC 6609, section 3.2) is the list of its scripts with their names
abbrev pub script_at : (name : List ℕ) → List (List ℕ × Commands) → Option Commands
script_at name [] = None
script_at name (e ∷ es) = if bytes_eq e.0 name then Some e.1 else script_at name es

-- the location with this script at its name: in the place of the one that has the name, or after all others
abbrev pub put_script : (name : List ℕ) → Commands → List (List ℕ × Commands) → List (List ℕ × Commands)
put_script name script [] = (name, script) ∷ []
put_script name script (e ∷ es) = if bytes_eq e.0 name then (name, script) ∷ es else e ∷ put_script name script es

-- a new name in a location that has thirty-two
pub record HasNoRoom (es : List (List ℕ × Commands)) (name : List ℕ) : Type 0 where
  pub full : length es ≡ most_scripts
  pub missing : script_at name es ≡ None

-- the personal or the global location
abbrev pub location : (global : Bool) → (personal globals : List (List ℕ × Commands)) → List (List ℕ × Commands)
location true personal globals = globals
location false personal globals = personal

-- what an include finds (RFC 6609, section 3.2): a global name among the global scripts, another among the personal
-- ones
abbrev pub library : (personal globals : List (List ℕ × Commands)) → Library
library personal globals = record { find = λ s. script_at s.name (location s.global personal globals) }

-- the meanings of stored scripts
abbrev pub meanings_of : List NamedScript → List (List ℕ × Commands)
meanings_of es = map (λ e. (e.name, program_of (tree_of e.script))) es
