-- What officers have set, and the office that it represents.
use Rattle.std.specs.Prelude.{◌≡◌, ℕ, List, [], ◌∷◌, if◌then◌else◌}
use Rattle.std.specs.Str.{bytes_eq}
use Rattle.sieve_syntax.specs.View.{tree_of}
use Rattle.sieve_syntax.specs.declared.tree.Script.{Script}
use Rattle.sieve_meaning.specs.Meaning.{Library}
use Rattle.sieve_meaning.specs.Program.{Commands}
use Rattle.sieve_meaning.specs.Reading.{program_of}
use Rattle.sieve_library.specs.Libraries.{NamedScript, Scripts}
use Rattle.filing_image.specs.Program.{Program}
use Rattle.record_archive.specs.Archive.{Archive}
use Rattle.desk_commands.specs.Office.{Office, with_globals, with_officer, with_scripts}
use Rattle.desk_commands.specs.Pinning.{Active, Officer, PinsChoice, choice_by, new_officer}
use Rattle.desk_commands.specs.Scripts.{library, meanings_of, put_script}

-- what an officer has set: a program, and scripts as trees
pub record Settings : Type 0 where
  pub active : Active
  pub scripts : List NamedScript

-- the global scripts, and the officers who have set something, each with the name
pub record Register : Type 0 where
  pub globals : List NamedScript
  pub officers : List (List ℕ × Settings)

abbrev pub officer_of : Settings → Officer
officer_of s = record { active = s.active; scripts = meanings_of s.scripts }

-- the officer of that name
abbrev pub officer_at : (name : List ℕ) → List (List ℕ × Settings) → Officer
officer_at name [] = new_officer
officer_at name (e ∷ es) = if bytes_eq name e.0 then officer_of e.1 else officer_at name es

-- the office of an archive and of these officers
abbrev pub office_of : Archive → Register → Office
office_of a r = record { archive = a; globals = meanings_of r.globals; officers = λ name. officer_at name r.officers }

-- the officer with that script under that name
abbrev pub with_script : Officer → (name : List ℕ) → Commands → Officer
with_script o name script = with_scripts o (put_script name script o.scripts)

-- the office after an officer kept that script under that name
abbrev pub with_own_script : Office → (officer name : List ℕ) → Commands → Office
with_own_script s officer name script = with_officer s officer (with_script (s.officers officer) name script)

-- the office after that script was kept under that name for all officers
abbrev pub with_global_script : Office → (name : List ℕ) → Commands → Office
with_global_script s name script = with_globals s (put_script name script s.globals)

-- what is pinned for an officer with those global scripts
abbrev pub PinsFor : Officer → (globals : List (List ℕ × Commands)) → Program → Type 0
PinsFor o globals p = PinsChoice (choice_by o.active o.scripts) (library o.scripts globals) p

-- what an include finds among these scripts
abbrev pub library_in : Scripts → Library
library_in l = library (meanings_of l.personal) (meanings_of l.global)

abbrev pub meaning_of : Script → Commands
meaning_of x = program_of (tree_of x)
