use Rattle.std.proofs.Common.{take}
use Rattle.cli_console.specs.Sinks.{Writes}
use Rattle.cli_changes.specs.DueLines.{due_lines}
use Rattle.cli_changes.proofs.dispose.write_lines.Given as goal

abbrev pub invariant-loop-line : goal.invariant-loop-line
invariant-loop-line g l = Writes g.K.Sink.written l.fn.sink l.sink (due_lines l.fn.volume l.fn.altered (take l.line-index l.lines))
