use Rattle.filing_flow.proofs.Ended.{program_ends}
use Rattle.filing_flow.proofs.laws.a_program_runs_as_its_code.Goals as goal

pub returns : goal.returns
returns c = program_ends
