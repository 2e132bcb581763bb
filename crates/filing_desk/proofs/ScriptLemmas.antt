-- Stored scripts, and what they mean.
use Rattle.std.proofs.Common.{◌≡◌, ℕ, List, [], ◌∷◌, Bool, true, false, ap, refl, ◌∙◌}
use Rattle.std.specs.Prelude.{option_map}
use Rattle.std.specs.Str.{bytes_eq}
use Rattle.std.proofs.Math.Path.{fun_ext}
use Rattle.sieve_syntax.specs.View.{tree_of}
use Rattle.sieve_syntax.specs.declared.tree.Script.{Script}
use Rattle.sieve_meaning.specs.Program.{Commands}
use Rattle.sieve_meaning.specs.Reading.{program_of}
use Rattle.sieve_meaning.specs.Meaning.{ScriptName}
use Rattle.sieve_library.specs.Libraries.{NamedScript, Scripts, library_of, script_under, location_of}
use Rattle.desk_commands.specs.Scripts.{script_at, location, library, meanings_of}

abbrev meaning_of : Script → Commands
meaning_of x = program_of (tree_of x)

-- a name has the meaning of the script that is stored at it
pub meaning_at : (name : List ℕ) (es : List NamedScript) → option_map meaning_of (script_under name es) ≡ script_at name (meanings_of es)
meaning_at name [] = refl
meaning_at name (e ∷ es) = go _ refl (meaning_at name es)
  where
    go : (b : Bool) → bytes_eq e.name name ≡ b
        → option_map meaning_of (script_under name es) ≡ script_at name (meanings_of es)
        → option_map meaning_of (script_under name (e ∷ es)) ≡ script_at name (meanings_of (e ∷ es))
    go true is rest = rw is refl
    go false is rest = rw is rest

found_in : (l : Scripts) (s : ScriptName) (global : Bool)
    → option_map meaning_of (script_under s.name (location_of global l))
    ≡ script_at s.name (location global (meanings_of l.personal) (meanings_of l.global))
found_in l s true = meaning_at s.name l.global
found_in l s false = meaning_at s.name l.personal

-- what an include finds where there is no personal script
pub library_meant : (l : Scripts) (globals : List NamedScript) → l ≡ record { personal = []; global = globals }
    → library_of l ≡ library [] (meanings_of globals)
library_meant l globals is =
    let all : library_of l ≡ library (meanings_of l.personal) (meanings_of l.global) =
    ap (λ f. record { find = f }) (fun_ext (λ s. found_in l s s.global)) in
    all ∙ ap (λ (x : Scripts). library (meanings_of x.personal) (meanings_of x.global)) is
