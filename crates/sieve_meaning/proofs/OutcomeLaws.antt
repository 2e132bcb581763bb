-- Outcomes of scripts that are too heavy, and of all others.
use Rattle.std.proofs.Common.{◌≡◌, ◌<◌, ◌≤◌, ℕ, List, [], false, Option, Some, refl}
use Rattle.std.proofs.lemmas.Bool.{lt-ltb, le-ltb, false_from_ne_true}
use Rattle.sieve_meaning.specs.declared.run_fault.RunFault.TheVariants as run_faults
use Rattle.sieve_meaning.specs.Case.{Facts}
use Rattle.sieve_meaning.specs.Program.{Commands}
use Rattle.sieve_meaning.specs.Meaning.{Library, meaning}
use Rattle.sieve_meaning.specs.Weight.{greatest_weight, linked_weight}
use Rattle.sieve_meaning.specs.Procedures.{procedures, path_weight, is_beyond}
use Rattle.sieve_meaning.specs.TooHeavy.{is_too_heavy, IsTooHeavy, script_budget}
use Rattle.sieve_meaning.specs.Outcome.{outcome, outcome_at, outcome_of}

pub not_heavy : (lib : Library) (known_as : Option (List ℕ)) (main : Commands) → (IsTooHeavy lib known_as main → ⊥)
    → is_too_heavy lib known_as main ≡ false
not_heavy lib known_as main light = false_from_ne_true (is_too_heavy lib known_as main) light

-- A script up to the greatest weight is not too heavy, and its weight is its budget.
pub light_by_weight : (lib : Library) (known_as : Option (List ℕ)) (main : Commands)
    → linked_weight lib known_as main ≤ greatest_weight → is_too_heavy lib known_as main ≡ false
unfolding is_too_heavy
light_by_weight lib known_as main under = rw (le-ltb greatest_weight (linked_weight lib known_as main) under) refl

pub budget_by_weight : (lib : Library) (known_as : Option (List ℕ)) (main : Commands)
    → linked_weight lib known_as main ≤ greatest_weight
    → script_budget lib known_as main ≡ linked_weight lib known_as main
unfolding script_budget
budget_by_weight lib known_as main under = rw (le-ltb greatest_weight (linked_weight lib known_as main) under) refl

-- Of any other the procedures decide, and the weight of its longest path is its budget.
pub heavy_by_procedures : (lib : Library) (known_as : Option (List ℕ)) (main : Commands)
    → greatest_weight < linked_weight lib known_as main
    → is_too_heavy lib known_as main ≡ is_beyond (procedures lib known_as main) (path_weight lib known_as main)
unfolding is_too_heavy
heavy_by_procedures lib known_as main over = rw (lt-ltb greatest_weight (linked_weight lib known_as main) over) refl

pub budget_by_path : (lib : Library) (known_as : Option (List ℕ)) (main : Commands)
    → greatest_weight < linked_weight lib known_as main
    → script_budget lib known_as main ≡ path_weight lib known_as main
unfolding script_budget
budget_by_path lib known_as main over = rw (lt-ltb greatest_weight (linked_weight lib known_as main) over) refl

-- one that is too heavy ends with that fault
pub heavy_outcome : (facts : Facts) (lib : Library) (known_as : Option (List ℕ)) (main : Commands)
    → IsTooHeavy lib known_as main
    → outcome facts lib known_as main ≡ outcome_at (Some run_faults.TooHeavy) [] false false
unfolding outcome
heavy_outcome facts lib known_as main heavy = rw heavy refl

-- any other has the outcome of what it means
pub light_outcome : (facts : Facts) (lib : Library) (known_as : Option (List ℕ)) (main : Commands)
    → is_too_heavy lib known_as main ≡ false
    → outcome facts lib known_as main ≡ outcome_of (meaning facts lib known_as main)
unfolding outcome
light_outcome facts lib known_as main light = rw light refl
