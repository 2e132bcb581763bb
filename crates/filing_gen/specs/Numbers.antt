-- The numbers of the procedures that the includes of a procedure enter, by the slots of their scripts.
use Rattle.std.specs.Prelude.{◌≡◌, ℕ, suc, List, ◌∷◌, Option, Some, None, slice_get}
use Rattle.sieve_meaning.specs.Program.{Commands}
use Rattle.sieve_meaning.specs.Meaning.{ScriptName}
use Rattle.sieve_meaning.specs.Procedures.{Procedure}
use Rattle.sieve_library.specs.Libraries.{Scripts, library_of}
use Rattle.filing_procedures.specs.Slots.{slots_of}
use Rattle.filing_procedures.specs.ProcedureCode.{number_of}

-- the number of the procedure that an include of the script with this slot enters, where one more script may be active
abbrev pub IsNumber : Scripts → (later : List Procedure) → Procedure → (slot : ℕ) → Option ℕ → Type 0
IsNumber l later p slot number = (left : ℕ) (s : ScriptName) (x : Commands) → p.left ≡ suc left →
    (library_of l).find s ≡ Some x → slots_of l s ≡ slot →
    number ≡ number_of (library_of l) later (record { script = x; left = left; chain = s ∷ p.chain })

abbrev pub number_if_there : Option (Option ℕ) → Option ℕ
number_if_there None = None
number_if_there (Some number) = number

-- the number that a table has at a place, where it has one
abbrev pub number_at : (numbers : List (Option ℕ)) → (place : ℕ) → Option ℕ
number_at numbers place = number_if_there (slice_get numbers place)

-- those of all slots
abbrev pub AreNumbers : Scripts → (later : List Procedure) → Procedure → (numbers : List (Option ℕ)) → Type 0
AreNumbers l later p numbers = (slot : ℕ) → IsNumber l later p slot (number_at numbers slot)
