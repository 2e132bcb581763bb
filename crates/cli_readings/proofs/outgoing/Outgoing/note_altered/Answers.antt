use Rattle.std.proofs.Common.{refl}
use Rattle.cli_readings.proofs.outgoing.Outgoing.note_altered.Goals as goal

pub returns : goal.returns
returns g c = record { handed = c.in_ok-note_altered.ensures; count = refl }
