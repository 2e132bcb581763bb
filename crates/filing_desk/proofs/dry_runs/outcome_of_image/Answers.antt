use Rattle.std.proofs.lemmas.Result.{IfOk-weaker}
use Rattle.filing_desk.specs.DryRuns.{IsOutcomeOf}
use Rattle.filing_desk.proofs.OutcomeLemmas.{outcome_of_text}
use Rattle.filing_desk.proofs.dry_runs.outcome_of_image.Goals as goal

pub returns : goal.returns
returns g c = λ globals text is.
    let facts = g.C.Case.facts c.args.case.now in
    IfOk-weaker c.run_image.result _ (IsOutcomeOf globals text facts) (λ o ran.
    outcome_of_text c.a_run_ends_once.ensures.outcome globals text c.args.image.now facts ran.0 o is ran.1) c.run_image.ensures
