use Rattle.std.proofs.Common.{List, ℕ}
use Rattle.cli_readings.specs.VolumeTwice.{Reading}
use Rattle.cli_tasks.proofs.volume_twice.gather.Goals as goal

pub returns : goal.returns
returns g c = (
  c.in_ok-seals.seals,
  λ clean (read : Reading) stands same (vs : List ℕ) had.
      c.in_ok-gathered.ensures.gathered clean read (c.of.ensures.glances.stands (read c.args.volume).0 stands) same vs had,
)
