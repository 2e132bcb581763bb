use Rattle.filing_procedures.proofs.SetLemmas.{has_one_more}
use Rattle.filing_procedures.proofs.slot_set.SlotSet.with.Goals as goal

pub returns : goal.returns
returns c = λ k. has_one_more c.args.self.bits c.args.slot k c.requires
