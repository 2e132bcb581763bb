use Rattle.std.proofs.Common.{refl}
use Rattle.cli_changes.proofs.ImportLaws.{makes_one}
use Rattle.cli_changes.proofs.import_room.ImportRoomOldMailroom.read.Goals as goal

pub returns-clause-call : goal.returns-clause-call
returns-clause-call g c = makes_one g.A.Records.keeper _ _ _ refl refl refl refl
