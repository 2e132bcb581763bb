use Rattle.std.proofs.Common.{refl}
use Rattle.cli_readings.proofs.outgoing.Outgoing.write_sum.Goals as goal

pub returns : goal.returns
returns g c = record { handed = c.in_ok-write_sum.ensures; count = refl }
