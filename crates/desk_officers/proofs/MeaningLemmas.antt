-- Stored scripts, and what they mean.
use Rattle.std.proofs.Common.{◌≡◌, ℕ, suc, List, [], ◌∷◌, length, Bool, true, false, ap, refl, sym, ◌∙◌}
use Rattle.std.specs.Prelude.{Option, Some, None, option_map}
use Rattle.std.specs.Str.{bytes_eq}
use Rattle.std.proofs.Math.Path.{fun_ext}
use Rattle.sieve_syntax.specs.declared.tree.Script.{Script}
use Rattle.sieve_meaning.specs.Meaning.{ScriptName}
use Rattle.sieve_library.specs.Libraries.{NamedScript, Scripts, library_of, script_under, location_of, with_entry}
use Rattle.sieve_library.specs.Libraries as kept
use Rattle.desk_commands.specs.Scripts.{script_at, put_script, HasNoRoom, location, meanings_of}
use Rattle.desk_officers.specs.Register.{library_in, meaning_of}

-- the meaning at a name is that of the script that is stored at it
pub meaning_at : (name : List ℕ) (es : List NamedScript) → option_map meaning_of (script_under name es) ≡ script_at name (meanings_of es)
meaning_at name [] = refl
meaning_at name (e ∷ es) = go _ refl (meaning_at name es)
  where
    go : (b : Bool) → bytes_eq e.name name ≡ b
        → option_map meaning_of (script_under name es) ≡ script_at name (meanings_of es)
        → option_map meaning_of (script_under name (e ∷ es)) ≡ script_at name (meanings_of (e ∷ es))
    go true is rest = rw is refl
    go false is rest = rw is rest

pub meanings_put : (name : List ℕ) (script : Script) (es : List NamedScript)
    → meanings_of (with_entry (record { name = name; script = script }) es)
    ≡ put_script name (meaning_of script) (meanings_of es)
meanings_put name script [] = refl
meanings_put name script (e ∷ es) = go _ refl (meanings_put name script es)
  where
    go : (b : Bool) → bytes_eq e.name name ≡ b → meanings_of (with_entry (record { name = name; script = script }) es)
        ≡ put_script name (meaning_of script) (meanings_of es)
        → meanings_of (with_entry (record { name = name; script = script }) (e ∷ es))
        ≡ put_script name (meaning_of script) (meanings_of (e ∷ es))
    go true is rest = rw is refl
    go false is rest = rw is (ap (λ more. (e.name, meaning_of e.script) ∷ more) rest)

as_many : (es : List NamedScript) → length (meanings_of es) ≡ length es
as_many [] = refl
as_many (e ∷ es) = ap suc (as_many es)

missing : (found : Option Script) → option_map meaning_of found ≡ None → found ≡ None
missing None e = refl
missing (Some x) e = cc

-- there is room among the meanings exactly where there is room among the scripts
pub no_room : (es : List NamedScript) (name : List ℕ) → kept.HasNoRoom es name → HasNoRoom (meanings_of es) name
no_room es name h = record { full = as_many es ∙ h.full; missing = sym (meaning_at name es) ∙ ap (option_map meaning_of) h.missing }

pub no_room_kept : (es : List NamedScript) (name : List ℕ) → HasNoRoom (meanings_of es) name → kept.HasNoRoom es name
no_room_kept es name h = record { full = sym (as_many es) ∙ h.full; missing = missing (script_under name es) (meaning_at name es ∙ h.missing) }

found_in : (l : Scripts) (s : ScriptName) (global : Bool)
    → option_map meaning_of (script_under s.name (location_of global l))
    ≡ script_at s.name (location global (meanings_of l.personal) (meanings_of l.global))
found_in l s true = meaning_at s.name l.global
found_in l s false = meaning_at s.name l.personal

-- what an include finds among the scripts of two shelves
pub library_meant : (l : Scripts) → library_of l ≡ library_in l
library_meant l = ap (λ f. record { find = f }) (fun_ext (λ s. found_in l s s.global))
