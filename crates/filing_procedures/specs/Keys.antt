-- What tells procedures apart.
use Rattle.std.specs.Prelude.{◌≡◌, ℕ, List, ◌∷◌, Bool, ◌&&◌, Some, nat_eq}
use Rattle.std.specs.List.{list_any}
use Rattle.sieve_meaning.specs.Meaning.{ScriptName}
use Rattle.sieve_meaning.specs.Procedures.{Procedure}
use Rattle.sieve_library.specs.Libraries.{Scripts, library_of}
use Rattle.filing_procedures.specs.IncludedScripts.{is_there}
use Rattle.filing_procedures.specs.Sets.{has}
use Rattle.filing_procedures.specs.Slots.{slots_of}
use Rattle.filing_procedures.specs.declared.key.Key.{Key}

-- whether one of these scripts that is there has the slot
abbrev pub is_active : Scripts → (chain : List ScriptName) → (slot : ℕ) → Bool
is_active l chain k = list_any (λ s. is_there (library_of l) s && nat_eq (slots_of l s) k) chain

-- The key says how many scripts may be active, and which are.
pub record IsKeyOf (l : Scripts) (key : Key) (p : Procedure) : Type 0 where
  pub left : key.left ≡ p.left
  pub active : (k : ℕ) → has key.active k ≡ is_active l p.chain k

-- The key is that of a procedure that an include entered, so that it also says which script that is.
pub record IsEnteredKey (l : Scripts) (key : Key) (p : Procedure) : Type 0 where
  pub of : IsKeyOf l key p
  pub name : ScriptName
  pub before : List ScriptName
  pub chain : p.chain ≡ name ∷ before
  pub there : (library_of l).find name ≡ Some p.script
  pub slot : key.slot ≡ Some (slots_of l name)
