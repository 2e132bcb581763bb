-- Outcomes in lines, as a session answers them, and in one line.
use Rattle.std.specs.Prelude.{ℕ, List, [], ◌∷◌, ◌++◌, Option, Some, None, codes, decimal, flat_map}
use Rattle.sieve_meaning.specs.RunFaults.{number_of}
use Rattle.sieve_meaning.specs.declared.outcome.Outcome.{Outcome}
use Rattle.sieve_meaning.specs.declared.run_fault.RunFault.{RunFault}

abbrev pub class_octets : (path : List ℕ) → List ℕ
class_octets path = codes "class " ++ path ++ codes "\n"

-- a line for each class, in their order
abbrev pub classes_octets : (paths : List (List ℕ)) → List ℕ
classes_octets [] = codes "discarded\n"
classes_octets (path ∷ paths) = flat_map class_octets (path ∷ paths)

abbrev pub fault_octets : Option RunFault → List ℕ
fault_octets (Some fault) = codes "fault " ++ decimal (number_of fault) ++ codes "\n"
fault_octets None = []

-- the fault, where there is one, and then the classes
abbrev pub outcome_octets : Outcome → List ℕ
outcome_octets o = fault_octets o.fault ++ classes_octets o.classes

-- a path after a comma
abbrev pub next_class : (path : List ℕ) → List ℕ
next_class path = codes ", " ++ path

-- the classes in one line
abbrev pub listed_classes : (paths : List (List ℕ)) → List ℕ
listed_classes [] = codes "no class"
listed_classes (path ∷ paths) = path ++ flat_map next_class paths

-- the fault after them
abbrev pub noted_fault : Option RunFault → List ℕ
noted_fault (Some fault) = codes " (fault " ++ decimal (number_of fault) ++ codes ")"
noted_fault None = []

abbrev pub listed_outcome : Outcome → List ℕ
listed_outcome o = listed_classes o.classes ++ noted_fault o.fault
