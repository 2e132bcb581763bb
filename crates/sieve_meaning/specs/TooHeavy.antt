-- Which scripts are too heavy to be run, and the budgets of all others.
use Rattle.std.specs.Prelude.{ℕ, List, Bool, ◌&&◌, IsTrue, Option, nat_lt, if◌then◌else◌}
use Rattle.sieve_meaning.specs.Program.{Commands}
use Rattle.sieve_meaning.specs.Meaning.{Library}
use Rattle.sieve_meaning.specs.Weight.{greatest_weight, linked_weight}
use Rattle.sieve_meaning.specs.Procedures.{procedures, path_weight, is_beyond}

-- whether a main script, which may have a name, is too heavy for code in which each include has a copy of its script
abbrev pub needs_procedures : Library → (known_as : Option (List ℕ)) → Commands → Bool
needs_procedures lib known_as main = nat_lt greatest_weight (linked_weight lib known_as main)

-- whether it is too heavy even where the scripts that it includes are procedures
unfoldable pub is_too_heavy : Library → (known_as : Option (List ℕ)) → Commands → Bool
is_too_heavy lib known_as main = needs_procedures lib known_as main &&
    is_beyond (procedures lib known_as main) (path_weight lib known_as main)

abbrev pub IsTooHeavy : Library → (known_as : Option (List ℕ)) → Commands → Type 0
IsTooHeavy lib known_as main = IsTrue (is_too_heavy lib known_as main)

-- in how many steps a main script runs that is not too heavy
unfoldable pub script_budget : Library → (known_as : Option (List ℕ)) → Commands → ℕ
script_budget lib known_as main = if needs_procedures lib known_as main then path_weight lib known_as main
    else linked_weight lib known_as main
