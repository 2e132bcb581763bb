use Rattle.std.proofs.Common.{refl}
use Rattle.cli_readings.proofs.outgoing.Outgoing.list.Goals as goal

pub returns : goal.returns
returns g c = record { handed = c.in_ok-list.ensures; count = refl }
