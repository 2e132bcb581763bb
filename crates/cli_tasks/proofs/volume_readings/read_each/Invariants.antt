use Rattle.std.proofs.Common.{◌≡◌, false}
use Rattle.cli_tasks.specs.Readings.{ReadsEach}
use Rattle.cli_tasks.proofs.volume_readings.read_each.Given as goal

abbrev pub invariant-loop-below : goal.invariant-loop-below
invariant-loop-below g l = l.reading.joined.is_refused ≡ false
    → ReadsEach g.A.Kept.Store (g.A.Archives.is_at l.fn.archives) l.fn.volumes.folder.now g.R.VolumeReader.takes l.fn.questions l.fn.typed l.below
    l.fn.reader l.reading.reader
