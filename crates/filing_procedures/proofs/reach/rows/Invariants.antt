use Rattle.std.proofs.Common.{map}
use Rattle.sieve_library.specs.BorrowedShelves.{scripts_of}
use Rattle.filing_procedures.specs.ReachTables.{AreRows}
use Rattle.filing_procedures.proofs.reach.rows.Given as goal

abbrev pub invariant-loop-slot : goal.invariant-loop-slot
invariant-loop-slot l = AreRows (scripts_of l.shelves) l.slot (map (λ r. r.items) l.rows.items)
