use Rattle.filing_procedures.proofs.SetLemmas.{has_both}
use Rattle.filing_procedures.proofs.slot_set.SlotSet.meet.Goals as goal

pub returns : goal.returns
returns c = has_both c.args.self.bits c.args.other.bits
