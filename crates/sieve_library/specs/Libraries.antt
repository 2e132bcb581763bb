-- The scripts that can be included (RFC 6609, section 3.2), each by its name: those of the user (`:personal`) and those
-- of the site (`:global`).
use Rattle.std.specs.Prelude.{◌≡◌, ℕ, ◌≤◌, List, [], ◌∷◌, length, map, Bool, true, false, if◌then◌else◌, Option, Some, None, option_map, find, refl}
use Rattle.std.specs.List.{position_or_len}
use Rattle.std.specs.Str.{bytes_eq}
use Rattle.std.specs.Coded.{Coded, code_by, coded×, coded_list, coded_ℕ}
use Rattle.sieve_syntax.specs.declared.tree.Script.{Script}
use Rattle.sieve_syntax.specs.contracts.tree.Script as kept
use Rattle.sieve_syntax.specs.declared.tree.Command.{Command}
use Rattle.sieve_syntax.specs.View.{command_of, commands_of, tree_of}
use Rattle.sieve_meaning.specs.Meaning.{Library, ScriptName}
use Rattle.sieve_meaning.specs.Program.{Commands}
use Rattle.sieve_meaning.specs.Reading.{program_of}
use Rattle.sieve_library.specs.declared.fault.LibraryFault.{LibraryFault}
use Rattle.sieve_library.specs.declared.fault.LibraryFault.TheVariants.{Full, NoMemory}

pub record NamedScript : Type 0 where
  pub name : List ℕ
  pub script : Script

-- a script with its name
abbrev pub named_script : List ℕ → Script → NamedScript
named_script name script = record { name = name; script = script }

abbrev pub is_named : List ℕ → NamedScript → Bool
is_named name e = bytes_eq e.name name

-- entries are coded as pairs
abbrev pub entries_code : Coded (List NamedScript)
entries_code = coded_list (code_by (List ℕ × Script) (coded× (coded_list coded_ℕ) kept.the_row.coded) (λ e. (e.name, e.script)) (λ p. record { name = p.0; script = p.1 }) (λ _. refl))

-- the script at a name; a location is a map from names to scripts, given as the list of its entries
abbrev pub script_under : List ℕ → List NamedScript → Option Script
script_under name es = option_map (λ e. e.script) (find (is_named name) es)

-- how many entries stand before the one with the name
abbrev pub place_of : List ℕ → List NamedScript → ℕ
place_of name es = position_or_len (is_named name) es

-- the location with this script at its name: in the place of the one that has the name, or after all others
abbrev pub with_entry : NamedScript → List NamedScript → List NamedScript
with_entry x [] = x ∷ []
with_entry x (e ∷ es) = if is_named x.name e then x ∷ es else e ∷ with_entry x es

-- the script is found at its name, and at each other name the one that was found before
abbrev pub IsFoundIn : NamedScript → (old new : List NamedScript) → Type 0
IsFoundIn x old new = (name : List ℕ) →
    script_under name new ≡ (if bytes_eq x.name name then Some x.script else script_under name old)

-- no name occurs twice
abbrev pub EachOnce : List NamedScript → Type 0
EachOnce [] = Unit {0}
EachOnce (e ∷ es) = (script_under e.name es ≡ None) × EachOnce es

-- the most scripts of a location
abbrev pub most_scripts : ℕ
most_scripts = 32

-- each name occurs once in a location, which has at most thirty-two
pub record IsLocation (es : List NamedScript) : Type 0 where
  pub once : EachOnce es
  pub few : length es ≤ most_scripts

-- a new name in a location that has thirty-two
pub record HasNoRoom (es : List NamedScript) (name : List ℕ) : Type 0 where
  pub full : length es ≡ most_scripts
  pub missing : script_under name es ≡ None

-- the scripts of both locations
pub record Scripts : Type 0 where
  pub personal : List NamedScript
  pub global : List NamedScript

abbrev pub scripts_code : Coded Scripts
scripts_code = code_by (List NamedScript × List NamedScript) (coded× entries_code entries_code) (λ l. (l.personal, l.global)) (λ p. record { personal = p.0; global = p.1 }) (λ _. refl)

pub record IsLibrary (l : Scripts) : Type 0 where
  pub personal : IsLocation l.personal
  pub global : IsLocation l.global

abbrev pub no_scripts : Scripts
no_scripts = record { personal = []; global = [] }

abbrev pub location_of : (global : Bool) → Scripts → List NamedScript
location_of true l = l.global
location_of false l = l.personal

-- the script of a name, in the location that the name says
abbrev pub found_script : Scripts → ScriptName → Option Script
found_script l s = script_under s.name (location_of s.global l)

-- the program that a script spells
abbrev pub program_in : Script → Commands
program_in s = program_of (tree_of s)

-- the program that the commands of a list spell, one after the other
abbrev pub listed_program : List Command → Commands
listed_program cs = program_of (commands_of (map command_of cs))

-- what an include finds (RFC 6609, section 3.2): a global name among the global scripts, another among the personal
-- ones
abbrev pub library_of : Scripts → Library
library_of l = record { find = λ s. option_map (λ x. program_of (tree_of x)) (script_under s.name (location_of s.global l)) }

-- the numbers of the faults
abbrev pub library_number : LibraryFault → ℕ
library_number Full = 96
library_number NoMemory = 99
