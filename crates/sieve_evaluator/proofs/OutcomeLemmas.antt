-- Outcomes, from the end of a run.
use Rattle.std.proofs.Common.{◌≡◌, ℕ, List, [], false, map, refl, sym, ap, ◌∙◌}
use Rattle.std.specs.Prelude.{Option}
use Rattle.sieve_syntax.specs.Tree.{CommandTrees}
use Rattle.sieve_meaning.specs.Case.{Facts}
use Rattle.sieve_meaning.specs.Reading.{program_of}
use Rattle.sieve_meaning.specs.Meaning.{ScriptName, Library, inclusion_within, main_names, meaning}
use Rattle.sieve_meaning.specs.Outcome.{outcome_at, outcome_of}
use Rattle.sieve_evaluator.specs.Runs.{ending_at, fault_of, filing_of, runs_from}
use Rattle.sieve_meaning.specs.Scripts.{script_of}
use Rattle.sieve_evaluator.specs.declared.filing.Filing.{Filing}
use Rattle.sieve_evaluator.specs.declared.filing.Ending.{Ending}
use Rattle.sieve_evaluator.specs.declared.filing.Ending.TheVariants as endings

outcome_of_ending : (e : Ending) (f : Filing) → outcome_of (ending_at e f) ≡ outcome_at (fault_of e) f.filed f.kept f.cancelled
outcome_of_ending endings.GoesOn f = refl
outcome_of_ending e f = refl

-- a run that began with nothing done
pub outcome_of_run : (facts : Facts) (lib : Library) (known_as : Option (List ℕ)) (tree : CommandTrees)
    (chain : List ScriptName) (e : Ending) (f g : Filing) → chain ≡ main_names known_as → g.filed ≡ [] → g.kept ≡ false
    → g.cancelled ≡ false → map script_of g.entered.items ≡ main_names known_as
    → ending_at e f ≡ runs_from facts (inclusion_within facts lib 7 chain) false tree (filing_of g)
    → outcome_at (fault_of e) f.filed f.kept f.cancelled ≡ outcome_of (meaning facts lib known_as (program_of tree))
unfolding runs_from
outcome_of_run facts lib known_as tree chain e f g active filed kept cancelled entered ran =
    sym (outcome_of_ending e f) ∙ ap (λ x. outcome_of x) (rw (active, filed, kept, cancelled, entered) at ran)
