-- Outcomes of scripts, by the runs of their images.
use Rattle.std.proofs.Common.{◌≡◌, ℕ, List, [], false, Option, Some, sym, subst, refl, ◌∙◌}
use Rattle.std.proofs.lemmas.Bool.{false_from_ne_true}
use Rattle.std.specs.Prelude.{None, Ok, Err}
use Rattle.filing_image.specs.Program.{Program}
use Rattle.filing_table.specs.Ends.{HasOutcome}
use Rattle.filing_flow.specs.Compiled.{IsCompiled}
use Rattle.sieve_meaning.specs.declared.outcome.Outcome.{Outcome}
use Rattle.sieve_meaning.specs.Case.{Facts}
use Rattle.sieve_meaning.specs.Program.{Commands}
use Rattle.sieve_meaning.specs.declared.run_fault.RunFault.TheVariants.{TooHeavy}
use Rattle.sieve_meaning.specs.Meaning.{Library, meaning}
use Rattle.sieve_meaning.specs.TooHeavy.{is_too_heavy, IsTooHeavy}
use Rattle.sieve_meaning.specs.Outcome.{outcome, outcome_at, outcome_of}
use Rattle.sieve_meaning.specs.Reading.{program_of}
use Rattle.sieve_library.specs.Libraries.{NamedScript}
use Rattle.desk_commands.specs.Scripts.{library, meanings_of}
use Rattle.desk_officers.specs.Filed.{IsImageNow}
use Rattle.filing_desk.specs.DryRuns.{IsOutcomeOf}

pub ok_is_no_fault : {A B : Type 0} (a : A) (b : B) → Ok a ≡ Err b → ⊥
ok_is_no_fault a b e = cc

-- a run has one outcome at most: what `a_run_ends_once` says
abbrev pub OutcomesAreOne : Type 0
OutcomesAreOne = (p : Program) (c : Facts) (m n : ℕ) (a b : Outcome) → HasOutcome p c m a → HasOutcome p c n b → a ≡ b

-- a script that is too heavy has that fault
pub heavy_outcome : (facts : Facts) (lib : Library) (known_as : Option (List ℕ)) (main : Commands)
    → IsTooHeavy lib known_as main → outcome facts lib known_as main ≡ outcome_at (Some TooHeavy) [] false false
unfolding outcome
heavy_outcome facts lib known_as main heavy = rw heavy refl

light_outcome : (facts : Facts) (lib : Library) (known_as : Option (List ℕ)) (main : Commands)
    → is_too_heavy lib known_as main ≡ false
    → outcome facts lib known_as main ≡ outcome_of (meaning facts lib known_as main)
unfolding outcome
light_outcome facts lib known_as main light = rw light refl

-- what a run of its image captures, where it is not too heavy
pub outcome_of_run : OutcomesAreOne
    → (facts : Facts) (lib : Library) (main : Commands) (p : Program) (n : ℕ) (o : Outcome) → IsCompiled lib None main p
    → (IsTooHeavy lib None main → ⊥) → HasOutcome p facts n o → o ≡ outcome facts lib None main
outcome_of_run one_outcome facts lib main p n o compiled light ran =
    let (m, meant) = compiled.outcomes facts in
    one_outcome p facts n m o (outcome_of (meaning facts lib None main)) ran meant
    ∙ sym (light_outcome facts lib None main (false_from_ne_true (is_too_heavy lib None main) light))

-- what a run of the image of a text captures
pub outcome_of_text : OutcomesAreOne
    → (globals : List NamedScript) (text : List ℕ) (p : Program) (facts : Facts) (n : ℕ) (o : Outcome)
    → IsImageNow globals text p → HasOutcome p facts n o → IsOutcomeOf globals text facts o
outcome_of_text one_outcome globals text p facts n o is ran = record {
  tree = is.tree;
  good = is.good;
  outcome =
      outcome_of_run one_outcome facts (library [] (meanings_of globals)) (program_of is.tree) p n o is.compiled is.light ran;
}

-- the same outcome, by equal global scripts and octets
pub outcome_same : {globals shown : List NamedScript} {text script : List ℕ} {facts : Facts} {o : Outcome}
    → globals ≡ shown → text ≡ script → IsOutcomeOf globals text facts o → IsOutcomeOf shown script facts o
outcome_same {globals} {shown} {text} {script} {facts} {o} same_globals same_text is =
    let P : List NamedScript → Type 0 = λ scripts. IsOutcomeOf scripts script facts o in
    let Q : List ℕ → Type 0 = λ octets. IsOutcomeOf globals octets facts o in
    subst P same_globals (subst Q same_text is)
