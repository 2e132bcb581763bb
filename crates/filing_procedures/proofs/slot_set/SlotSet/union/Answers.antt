use Rattle.filing_procedures.proofs.SetLemmas.{has_either}
use Rattle.filing_procedures.proofs.slot_set.SlotSet.union.Goals as goal

pub returns : goal.returns
returns c = has_either c.args.self.bits c.args.other.bits
