use Rattle.std.proofs.Common.{take}
use Rattle.cli_readings.specs.VolumeTwice.{PushesRows}
use Rattle.cli_readings.proofs.volume_twice.push_rows.Given as goal

abbrev pub invariant-loop-row : goal.invariant-loop-row
invariant-loop-row g l = PushesRows g.K.Sink.written (take l.row-index l.rows) l.fn.list l.list
