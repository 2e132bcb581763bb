use Rattle.std.proofs.Common.{List, ℕ, take}
use Rattle.record_archive.specs.Archive.{Archive}
use Rattle.cli_readings.specs.Groups.{KeyedGroup}
use Rattle.cli_readings.specs.Twice.{AddsGroups}
use Rattle.cli_readings.specs.VolumeTwice.{HaveRows, IsRowIn}
use Rattle.cli_readings.proofs.volume_twice.write_all.Given as goal

abbrev pub invariant-loop-group : goal.invariant-loop-group
invariant-loop-group g l = (kept : ℕ → Archive) (gs : List KeyedGroup) → HaveRows kept l.fn.list.listing gs l.groups
    → AddsGroups g.K.Sink.written (IsRowIn kept l.fn.list.listing) l.fn.list (take l.group-index gs) l.list
