use Rattle.std.proofs.Common.{map, take}
use Rattle.record_reads.specs.Events.{event_of}
use Rattle.cli_history.specs.Printed.{PrintsRows}
use Rattle.cli_history.proofs.printing.PrintedHistory.print_page.Given as goal

abbrev pub invariant-loop-row : goal.invariant-loop-row
invariant-loop-row g l = PrintsRows g.K.Sink.written l.fn.self l.fn.text (map event_of (take l.row-index l.page)) l.self l.text
