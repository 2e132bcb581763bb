-- What the image of a script must satisfy.
use Rattle.std.specs.Prelude.{◌≡◌, ◌≤◌, ◌↔◌, ℕ, List, Option}
use Rattle.filing_image.specs.Program.{Program, version_of}
use Rattle.filing_image.specs.declared.version.Version.TheVariants.{One}
use Rattle.filing_verify.specs.Well.{IsWell}
use Rattle.filing_table.specs.Ends.{HasOutcome}
use Rattle.sieve_meaning.specs.Case.{Facts}
use Rattle.sieve_meaning.specs.Program.{Commands}
use Rattle.sieve_meaning.specs.Meaning.{Library, meaning}
use Rattle.sieve_meaning.specs.Outcome.{outcome_of}
use Rattle.sieve_meaning.specs.TooHeavy.{script_budget}
use Rattle.sieve_meaning.specs.Weight.{linked_weight, greatest_weight}

-- The image of a main script, which may have a name: it has version 1 exactly up to the greatest weight, declares the
-- script's budget, and may run. In every case its run ends with the outcome of what the script means.
pub record IsCompiled (lib : Library) (known_as : Option (List ℕ)) (main : Commands) (p : Program) : Type 0 where
  pub version : (version_of p.procedures ≡ One) ↔ (linked_weight lib known_as main ≤ greatest_weight)
  pub budget : p.budget ≡ script_budget lib known_as main
  pub well : IsWell p
  pub outcomes : (facts : Facts) → (n : ℕ) × HasOutcome p facts n (outcome_of (meaning facts lib known_as main))
