use Rattle.record_copy.proofs.CauseLemmas.{never_lost}
use Rattle.record_copy.proofs.copy.place_plan.Goals as goal

pub returns-in_err-replace_plan-clause-never : goal.returns-in_err-replace_plan-clause-never
returns-in_err-replace_plan-clause-never g c is =
    never_lost c.from_residual-in_err-replace_plan.result c.in_err-replace_plan.field-0.0 c.from_residual-in_err-replace_plan.ensures.1 is
