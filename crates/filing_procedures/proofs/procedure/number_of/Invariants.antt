use Rattle.std.proofs.Common.{◌≡◌, take, false}
use Rattle.std.specs.List.{list_any}
use Rattle.sieve_meaning.specs.Procedures.{Procedure, is_shared}
use Rattle.sieve_library.specs.BorrowedShelves.{scripts_of}
use Rattle.sieve_library.specs.Libraries.{library_of}
use Rattle.filing_procedures.specs.Keys.{IsEnteredKey}
use Rattle.filing_procedures.specs.ProcedureCode.{procedure_of}
use Rattle.filing_procedures.proofs.procedure.number_of.Given as goal

abbrev pub invariant-loop-number : goal.invariant-loop-number
invariant-loop-number l = (e : Procedure) → IsEnteredKey (scripts_of l.reach.shelves) l.key e
    → list_any (λ p. is_shared (library_of (scripts_of l.reach.shelves)) (procedure_of p) e)
    (take l.number l.procedures) ≡ false
