use Rattle.std.proofs.Common.{refl}
use Rattle.cli_changes.proofs.ImportLaws.{makes_one}
use Rattle.cli_changes.proofs.import_room.ImportRoomOldMailroom.tell_undated.Goals as goal

pub returns : goal.returns
returns g c = record { call = makes_one g.A.Records.keeper _ _ _ refl refl refl refl }
