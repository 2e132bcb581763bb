use Rattle.record_choice.proofs.DestructionLaws.{destroys_these}
use Rattle.record_choice.proofs.disposal.these_and_no_other.Goals as goal

pub returns : goal.returns
returns c = destroys_these
