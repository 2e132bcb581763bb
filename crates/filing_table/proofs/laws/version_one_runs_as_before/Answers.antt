use Rattle.filing_table.proofs.Kept.{runs_as_before}
use Rattle.filing_table.proofs.laws.version_one_runs_as_before.Goals as goal

pub returns : goal.returns
returns s = runs_as_before
