use Rattle.cli_changes.proofs.IntakeLaws.{want_of_memory}
use Rattle.cli_changes.proofs.intake_room.Room.settled_before.Goals as goal

pub returns-in_err-from_str-clause-failed : goal.returns-in_err-from_str-clause-failed
returns-in_err-from_str-clause-failed g c =
    want_of_memory c.from_residual-in_err-from_str.result c.from_residual-in_err-from_str.ensures.1
