use Rattle.std.proofs.Common.{take}
use Rattle.sieve_library.specs.BorrowedShelves.{scripts_of}
use Rattle.sieve_library.specs.Libraries.{library_of}
use Rattle.filing_procedures.specs.Slots.{slots_of}
use Rattle.filing_gen.specs.Scopes.{names_of}
use Rattle.filing_gen.proofs.ProceduresEmitted.{flows}
use Rattle.filing_gen.proofs.WrittenProcedures.{HasProcedures}
use Rattle.filing_gen.proofs.emit_procedures.emit_procedures.Given as goal

abbrev pub invariant-loop-own : goal.invariant-loop-own
invariant-loop-own l =
    HasProcedures l.out l.first_places.items
    (take l.own (flows (library_of (scripts_of l.reach.shelves)) (slots_of (scripts_of l.reach.shelves))
    (names_of l.main) l.procedures))
