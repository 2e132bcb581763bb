use Rattle.std.proofs.Common.{◌++◌, List, map, take}
use Rattle.record_tables.specs.Events.{Event as Row}
use Rattle.record_reads.specs.Events.{event_of}
use Rattle.cli_history.specs.Captures.{AreCaptured}
use Rattle.cli_history.proofs.captured.take_page.Given as goal

abbrev pub invariant-loop-row : goal.invariant-loop-row
invariant-loop-row l = (rows : List Row) → AreCaptured l.officer l.fn.known rows
    → AreCaptured l.officer l.known (rows ++ map event_of (take l.row-index l.page))
