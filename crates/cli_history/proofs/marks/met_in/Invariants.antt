use Rattle.std.proofs.Common.{◌++◌, List, map, take}
use Rattle.record_tables.specs.Events.{Event as Row}
use Rattle.record_reads.specs.Events.{event_of}
use Rattle.cli_history.specs.Judgements.{IsMet}
use Rattle.cli_history.proofs.marks.met_in.Given as goal

abbrev pub invariant-loop-row : goal.invariant-loop-row
invariant-loop-row l = (rows : List Row) → IsMet l.fn.front l.fn.before rows
    → IsMet l.fn.front l.met (rows ++ map event_of (take l.row-index l.page))
