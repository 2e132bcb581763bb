-- Sets of slots.
use Rattle.std.specs.Prelude.{ℕ, Bool, nat_eq}
use Rattle.std.specs.Int.{bit_at}
use Rattle.filing_procedures.specs.declared.slot_set.SlotSet.{SlotSet}

-- whether the set has the slot
abbrev pub has : SlotSet → ℕ → Bool
has s slot = nat_eq (bit_at s.bits slot) 1
