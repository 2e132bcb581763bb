use Rattle.filing_flow.proofs.Calls.{procedures_end}
use Rattle.filing_flow.proofs.laws.a_program_runs_as_its_procedures.Goals as goal

pub returns : goal.returns
returns c = procedures_end
