use Rattle.sieve_library.specs.BorrowedShelves.{scripts_of}
use Rattle.filing_procedures.specs.ReachTables.{AreReached}
use Rattle.filing_procedures.proofs.reach.reached_sets.Given as goal

abbrev pub invariant-loop-round : goal.invariant-loop-round
invariant-loop-round l = AreReached (scripts_of l.shelves) l.count l._round l.sets.items
