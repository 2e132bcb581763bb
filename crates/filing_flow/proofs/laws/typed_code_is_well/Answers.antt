use Rattle.filing_flow.proofs.Well.{typed_is_well}
use Rattle.filing_flow.proofs.laws.typed_code_is_well.Goals as goal

pub returns : goal.returns
returns c = typed_is_well
