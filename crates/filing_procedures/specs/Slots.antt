-- The slots of the scripts that can be included.
use Rattle.std.specs.Prelude.{◌≡◌, ℕ, ◌+◌, ◌<◌, ◌≤◌, Bool, true, false, Option, Some}
use Rattle.sieve_meaning.specs.Program.{Commands}
use Rattle.sieve_meaning.specs.Meaning.{ScriptName, Library}
use Rattle.sieve_library.specs.declared.shelves.Shelves.{Shelves}
use Rattle.sieve_library.specs.BorrowedShelves.{scripts_of}
use Rattle.sieve_library.specs.Libraries.{Scripts, place_of, location_of, library_of, most_scripts}

-- The slot of a script says where it is in the library: the personal ones come first, and leave room for as many as
-- there can be.
abbrev pub first_slot : (global : Bool) → ℕ
first_slot true = most_scripts
first_slot false = 0

abbrev pub slots_of : Scripts → ScriptName → ℕ
slots_of l s = first_slot s.global + place_of s.name (location_of s.global l)

-- the slot of each script
abbrev pub Slots : Type 0
Slots = ScriptName → ℕ

-- the slot of each script on two shelves
abbrev pub slots_on : Shelves → Slots
slots_on s = slots_of (scripts_of s)

-- Each script has its own slot, below the count, which is at most 64.
pub record HasSlots (lib : Library) (slot : Slots) (count : ℕ) : Type 0 where
  pub few : count ≤ 64
  pub inside : (s : ScriptName) (x : Commands) → lib.find s ≡ Some x → slot s < count
  pub own : (s t : ScriptName) (x y : Commands) → lib.find s ≡ Some x → lib.find t ≡ Some y → slot s ≡ slot t → s ≡ t

-- the script whose slot this is, where there is one
abbrev pub IsAt : Scripts → (slot : ℕ) → Option Commands → Type 0
IsAt l slot found = (s : ScriptName) (x : Commands) → (library_of l).find s ≡ Some x → slots_of l s ≡ slot → found ≡ Some x

-- something holds of the name and the program of the script with this slot, where there is one
abbrev pub ForScriptAt : Scripts → (slot : ℕ) → (ScriptName → Commands → Type 0) → Type 0
ForScriptAt l slot Holds = (s : ScriptName) (x : Commands) → (library_of l).find s ≡ Some x → slots_of l s ≡ slot →
    Holds s x
