use Rattle.std.proofs.Common.{refl}
use Rattle.cli_changes.proofs.IntakeLaws.{quiet_one, quietly}
use Rattle.cli_changes.proofs.intake_room.RoomMailroom.settle.Goals as goal

pub returns : goal.returns
returns g c = record { call = quiet_one g.A.Records.keeper _ _ _ (quietly _ _ refl refl refl refl refl) (λ h. h) }
