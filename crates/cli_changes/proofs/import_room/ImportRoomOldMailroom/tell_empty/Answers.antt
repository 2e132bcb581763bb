use Rattle.std.proofs.Common.{refl}
use Rattle.cli_changes.proofs.ImportLaws.{quiet_one}
use Rattle.cli_changes.proofs.import_room.ImportRoomOldMailroom.tell_empty.Goals as goal

pub returns : goal.returns
returns g c = record { call = quiet_one g.A.Records.keeper _ _ _ c.speak.ensures refl (λ h. h) }
