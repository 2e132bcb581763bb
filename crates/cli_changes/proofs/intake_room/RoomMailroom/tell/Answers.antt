use Rattle.cli_changes.proofs.IntakeLaws.{quiet_one}
use Rattle.cli_changes.proofs.intake_room.RoomMailroom.tell.Goals as goal

pub returns : goal.returns
returns g c = record { call = quiet_one g.A.Records.keeper _ _ _ c.speak.ensures (λ h. h) }
