use Rattle.std.proofs.Common.{◌≡◌, ℕ, take}
use Rattle.filing_procedures.specs.Sets.{has}
use Rattle.filing_procedures.specs.ReachTables.{further}
use Rattle.filing_procedures.proofs.reach.reached_further.Given as goal

abbrev pub invariant-loop-slot : goal.invariant-loop-slot
invariant-loop-slot l = (k : ℕ) → has l.reached k ≡ further l.sets (take l.slot-index l.row) k
