use Rattle.std.proofs.Common.{ℕ, List, ◌++◌, map, take}
use Rattle.record_reads.specs.declared.events.EventRow.{EventRow}
use Rattle.cli_history.specs.Replays.{Replays}
use Rattle.cli_history.specs.declared.opening.Purpose.{Purpose}
use Rattle.cli_history.proofs.replaying.Replayed.take_page.Given as goal

abbrev pub invariant-loop-row : goal.invariant-loop-row
invariant-loop-row l = (purpose : Purpose) (ls : List (List ℕ)) → Replays purpose l.fn.self ls
    → Replays purpose l.self (ls ++ map (λ (r : EventRow). r.line.items) (take l.row-index l.page))
