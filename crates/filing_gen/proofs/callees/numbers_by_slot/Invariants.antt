use Rattle.std.proofs.Common.{◌≡◌, length, map}
use Rattle.sieve_library.specs.BorrowedShelves.{scripts_of}
use Rattle.filing_procedures.specs.ProcedureCode.{procedure_of}
use Rattle.filing_gen.proofs.NumberLemmas.{AreNumbersBelow}
use Rattle.filing_gen.proofs.callees.numbers_by_slot.Given as goal

abbrev pub invariant-loop-slot : goal.invariant-loop-slot
invariant-loop-slot l = record {
  long : length l.numbers.items ≡ l.slot;
  below : AreNumbersBelow (scripts_of l.reach.shelves) (map procedure_of l.later) (procedure_of l.procedure) l.slot l.numbers.items;
}
