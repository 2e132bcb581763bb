use Rattle.std.proofs.Common.{◌≡◌, ◌+◌, take}
use Rattle.tool_report.specs.Room.{octets_at}
use Rattle.tool_report.proofs.room.Room.take.Given as goal

abbrev pub invariant-loop-place : goal.invariant-loop-place
invariant-loop-place l = l.left + octets_at l.fields (take l.place-index l.places) ≡ l.fn.self.left
