use Rattle.std.proofs.Common.{◌≡◌, take, map, filter}
use Rattle.sieve_meaning.specs.Scripts.{script_of}
use Rattle.sieve_library.specs.BorrowedShelves.{scripts_of}
use Rattle.sieve_library.specs.Libraries.{library_of}
use Rattle.filing_procedures.specs.Slots.{slots_of}
use Rattle.filing_procedures.specs.IncludedScripts.{is_there}
use Rattle.filing_procedures.proofs.reach.slots_of_names.Given as goal

abbrev pub invariant-loop-name : goal.invariant-loop-name
invariant-loop-name l =
    l.slots.items ≡ map (slots_of (scripts_of l.shelves)) (filter (is_there (library_of (scripts_of l.shelves)))
    (map script_of (take l.name-index l.names)))
