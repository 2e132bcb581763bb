use Rattle.filing_image.proofs.OneProgram.{one_start}
use Rattle.filing_image.proofs.laws.one_spelling.Goals as goal

pub returns : goal.returns
returns c = one_start
