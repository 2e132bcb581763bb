use Rattle.std.proofs.Common.{ℕ, ap, arith}
use Rattle.std.specs.Prelude.{nat_eq}
use Rattle.std.specs.Int.{bit_at}
use Rattle.std.proofs.lemmas.Bool.{eqb-true}
use Rattle.filing_procedures.proofs.SetLemmas.{same_bits}
use Rattle.filing_procedures.proofs.slot_set.SlotSet.is_same.Goals as goal

pub returns : goal.returns
returns c = (
  λ same k inside. ap (λ (n : ℕ). nat_eq (bit_at n k) 1) (eqb-true c.args.self.bits c.args.other.bits same),
  λ h. same_bits c.args.self.bits c.args.other.bits (omega arith) (omega arith) h,
)
