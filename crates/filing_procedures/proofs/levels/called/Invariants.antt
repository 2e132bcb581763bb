use Rattle.std.proofs.Common.{◌≡◌, ◌≤◌, [], length, map, flat_map, drop}
use Rattle.std.specs.List.{All}
use Rattle.sieve_library.specs.BorrowedShelves.{scripts_of}
use Rattle.sieve_library.specs.Libraries.{library_of}
use Rattle.filing_procedures.specs.ProcedureCode.{procedure_of, IsEntered, with_procedures, entered_by}
use Rattle.filing_procedures.proofs.levels.called.Given as goal

abbrev pub invariant-loop-caller : goal.invariant-loop-caller
invariant-loop-caller l =
    let lib = library_of (scripts_of l.reach.shelves) in
    All (IsEntered (scripts_of l.reach.shelves)) l.next.items
    × (length l.next.items ≤ l.room)
    × (with_procedures lib (map procedure_of l.next.items) (flat_map (entered_by lib) (map procedure_of (drop l.caller-index l.level)))
    ≡ with_procedures lib [] (flat_map (entered_by lib) (map procedure_of l.level)))
