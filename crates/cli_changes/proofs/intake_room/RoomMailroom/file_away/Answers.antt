use Rattle.std.proofs.Common.{refl}
use Rattle.cli_changes.proofs.IntakeLaws.{made_then, quietly}
use Rattle.cli_changes.proofs.intake_room.RoomMailroom.file_away.Goals as goal

pub returns-in-Ok-clause-made : goal.returns-in-Ok-clause-made
returns-in-Ok-clause-made g c = λ done h.
    made_then g.A.Records.keeper done _ c.args.self.now _ h (quietly _ _ refl refl refl refl refl)

pub returns-in-Err-clause-made : goal.returns-in-Err-clause-made
returns-in-Err-clause-made g c = λ done h.
    made_then g.A.Records.keeper done _ c.args.self.now _ h (quietly _ _ refl refl refl refl refl)
