use Rattle.std.proofs.Common.{◌≡◌, ℕ, map, take}
use Rattle.sieve_meaning.specs.Scripts.{script_of}
use Rattle.sieve_library.specs.BorrowedShelves.{scripts_of}
use Rattle.filing_procedures.specs.Sets.{has}
use Rattle.filing_procedures.specs.Keys.{is_active}
use Rattle.filing_procedures.proofs.key.slots_of_active.Given as goal

abbrev pub invariant-loop-script : goal.invariant-loop-script
invariant-loop-script l = (k : ℕ) → has l.active k ≡ is_active (scripts_of l.shelves) (map script_of (take l.script-index l.chain)) k
