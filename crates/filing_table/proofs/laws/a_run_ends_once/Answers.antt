use Rattle.filing_table.proofs.Once.{one_step, one_outcome}
use Rattle.filing_table.proofs.laws.a_run_ends_once.Goals as goal

pub returns-clause-steps : goal.returns-clause-steps
returns-clause-steps s = one_step

pub returns-clause-outcome : goal.returns-clause-outcome
returns-clause-outcome s = one_outcome
