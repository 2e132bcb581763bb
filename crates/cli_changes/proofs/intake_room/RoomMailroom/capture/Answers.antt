use Rattle.cli_changes.proofs.IntakeLaws.{captures_one}
use Rattle.cli_changes.proofs.intake_room.RoomMailroom.capture.Goals as goal

pub returns : goal.returns
returns g c = record {
  call = captures_one g.A.Records.keeper _ _ _ _ _ (record {
    full = c.capture_while_space.ensures.full;
    taken = c.capture_while_space.ensures.taken;
  });
}
