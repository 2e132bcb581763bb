use Rattle.std.proofs.Common.{List, ℕ, refl}
use Rattle.record_archive.specs.Archive.{Archive}
use Rattle.cli_readings.specs.VolumeTwice.{Reading}
use Rattle.cli_readings.proofs.volume_twice.TwiceGroups.listed.Goals as goal

pub returns : goal.returns
returns c = λ (read : Reading) (vs : List ℕ) had. (
  c.in_ok-twice.twice.items,
  record { gathered = had.gathered; all = had.all; twice = c.in_ok-twice.ensures had.gathered had.groups },
  λ (kept : ℕ → Archive). record { listing = refl; rows = c.in_ok-groups.ensures kept c.args.listing },
)
