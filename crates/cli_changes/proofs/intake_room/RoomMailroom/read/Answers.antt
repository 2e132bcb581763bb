use Rattle.std.proofs.Common.{refl}
use Rattle.cli_changes.proofs.IntakeLaws.{quiet_one, quietly}
use Rattle.cli_changes.proofs.intake_room.RoomMailroom.read.Goals as goal

pub returns-clause-call : goal.returns-clause-call
returns-clause-call g c = quiet_one g.A.Records.keeper _ _ _ (quietly _ _ refl refl refl refl refl) (λ h. h)
