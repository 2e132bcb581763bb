use Rattle.filing_flow.proofs.WellProcedures.{typed_procedures_are_well}
use Rattle.filing_flow.proofs.laws.typed_procedures_are_well.Goals as goal

pub returns : goal.returns
returns c = typed_procedures_are_well
