use Rattle.sieve_library.specs.BorrowedShelves.{scripts_of}
use Rattle.filing_procedures.proofs.ReachTables.{rows_turn}
use Rattle.filing_procedures.proofs.reach.rows.Goals as goal

pub loop-slot-preserved : goal.loop-slot-preserved
loop-slot-preserved c =
    rows_turn (scripts_of c.args.shelves) c.loop-slot.slot c.loop-slot.rows.items c.push.new.self.items
    c.in_ok-included_slots.field-0 c.loop-slot.invariant c.in_ok-included_slots.ensures c.in_ok-push.ensures.items
