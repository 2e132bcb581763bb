-- Tables of what scripts reach, by their slots.
use Rattle.std.specs.Prelude.{◌≡◌, ℕ, List, length, map, filter, Bool, false, ◌||◌, nat_eq, Option, Some, None, slice_get}
use Rattle.std.specs.List.{list_any}
use Rattle.sieve_meaning.specs.Program.{Commands}
use Rattle.sieve_meaning.specs.Meaning.{ScriptName}
use Rattle.sieve_meaning.specs.Procedures.{reaches_within, reaches}
use Rattle.sieve_library.specs.Libraries.{Scripts, library_of}
use Rattle.filing_procedures.specs.IncludedScripts.{is_there, names_there}
use Rattle.filing_procedures.specs.Sets.{has}
use Rattle.filing_procedures.specs.Slots.{slots_of}
use Rattle.filing_procedures.specs.declared.slot_set.SlotSet.{SlotSet}

-- whether there is a set, and it has the slot
abbrev pub has_at : Option SlotSet → (slot : ℕ) → Bool
has_at None k = false
has_at (Some set) k = has set k

-- whether a script with this slot, and what it reaches by the set, are or have the slot k
abbrev pub leads_to : Option SlotSet → (slot k : ℕ) → Bool
leads_to None slot k = false
leads_to (Some set) slot k = nat_eq k slot || has set k

-- what a script reaches that includes the scripts of these slots, where the sets say what each of those reaches
abbrev pub further : List SlotSet → (row : List ℕ) → (k : ℕ) → Bool
further sets row k = list_any (λ slot. leads_to (slice_get sets slot) slot k) row

-- the slots of the scripts that the script of a slot includes
abbrev pub IsRow : Scripts → (slot : ℕ) → List ℕ → Type 0
IsRow l slot row = (s : ScriptName) (x : Commands) → (library_of l).find s ≡ Some x → slots_of l s ≡ slot →
    row ≡ map (slots_of l) (filter (is_there (library_of l)) (names_there (library_of l) x))

-- those of each slot
pub record AreRows (l : Scripts) (count : ℕ) (rows : List (List ℕ)) : Type 0 where
  pub long : length rows ≡ count
  pub each : (slot : ℕ) (row : List ℕ) → slice_get rows slot ≡ Some row → IsRow l slot row

-- sets over one more include than these
pub record AreFurther (rows : List (List ℕ)) (old new : List SlotSet) : Type 0 where
  pub long : length new ≡ length rows
  pub each : (slot : ℕ) (row : List ℕ) → slice_get rows slot ≡ Some row → (k : ℕ) →
      has_at (slice_get new slot) k ≡ further old row k

-- what each script reaches over so many includes
pub record AreReached (l : Scripts) (count n : ℕ) (sets : List SlotSet) : Type 0 where
  pub long : length sets ≡ count
  pub is : (s t : ScriptName) (x y : Commands) → (library_of l).find s ≡ Some x → (library_of l).find t ≡ Some y →
      has_at (slice_get sets (slots_of l s)) (slots_of l t) ≡ reaches_within (library_of l) n x t

-- over any number of them
abbrev pub ReachIs : Scripts → List SlotSet → Type 0
ReachIs l sets = (s t : ScriptName) (x y : Commands) → (library_of l).find s ≡ Some x →
    (library_of l).find t ≡ Some y →
    has_at (slice_get sets (slots_of l s)) (slots_of l t) ≡ reaches (library_of l) x t
