use Rattle.std.proofs.Common.{◌≡◌, ◌≤◌, ◌-◌, length, map, filter_map, drop}
use Rattle.std.specs.List.{All}
use Rattle.sieve_meaning.specs.Procedures.{entry}
use Rattle.sieve_meaning.specs.Scripts.{script_of}
use Rattle.sieve_library.specs.BorrowedShelves.{scripts_of}
use Rattle.sieve_library.specs.Libraries.{library_of}
use Rattle.filing_procedures.specs.ProcedureCode.{names_of, procedure_of, IsEntered, with_procedures, entered_by}
use Rattle.filing_procedures.proofs.levels.enter_included.Given as goal

abbrev pub invariant-loop-name : goal.invariant-loop-name
invariant-loop-name l =
    let lib = library_of (scripts_of l.reach.shelves) in
    All (IsEntered (scripts_of l.reach.shelves)) l.next.items
    × (length l.next.items ≤ l.room)
    × (with_procedures lib (map procedure_of l.next.items)
    (filter_map (entry lib (l.caller.key.left - 1) (names_of l.caller))
    (map script_of (drop l.name-index l.name-items)))
    ≡ with_procedures lib (map procedure_of l.fn.next.items) (entered_by lib (procedure_of l.caller)))
