-- The classes that a run captures a message in.
use Rattle.std.specs.Prelude.{ℕ, List, [], ◌∷◌, Bool, false, not, ◌||◌, Option, Some, None, if◌then◌else◌}
use Rattle.class_paths.specs.Path.{unfiled}
use Rattle.class_paths.specs.Paths.{Paths, insert_path}
use Rattle.sieve_meaning.specs.declared.outcome.Outcome.{Outcome}
use Rattle.sieve_meaning.specs.declared.run_fault.RunFault.{RunFault}
use Rattle.sieve_meaning.specs.declared.run_fault.RunFault.TheVariants as run_faults
use Rattle.sieve_meaning.specs.Case.{Facts}
use Rattle.sieve_meaning.specs.Program.{Commands}
use Rattle.sieve_meaning.specs.Meaning.{Filing, Ending, GoesOn, Returns, Stops, Faults, Library, meaning}
use Rattle.sieve_meaning.specs.TooHeavy.{is_too_heavy}

-- A fault leaves the default class alone. Otherwise the classes are the filed ones, and the default one too if the
-- message is kept, explicitly or implicitly (RFC 5228, section 2.10.2).
abbrev pub outcome_at : Option RunFault → (filed : Paths) → (kept cancelled : Bool) → Outcome
outcome_at (Some fault) filed kept cancelled = record { classes = unfiled ∷ []; fault = Some fault }
outcome_at None filed kept cancelled = record { classes = if kept || not cancelled then insert_path unfiled filed else filed; fault = None }

abbrev pub outcome_with : Option RunFault → Filing → Outcome
outcome_with fault f = outcome_at fault f.filed f.kept f.cancelled

abbrev pub outcome_of : Ending → Outcome
outcome_of (GoesOn f) = outcome_with None f
outcome_of (Returns f) = outcome_with None f
outcome_of (Stops f) = outcome_with None f
outcome_of (Faults fault f) = outcome_with (Some fault) f

-- what a run of a main script captures, and its fault if it has one; one that is too heavy is not run
unfoldable pub outcome : Facts → Library → (known_as : Option (List ℕ)) → Commands → Outcome
outcome facts lib known_as main =
    if is_too_heavy lib known_as main then outcome_at (Some run_faults.TooHeavy) [] false false
    else outcome_of (meaning facts lib known_as main)
