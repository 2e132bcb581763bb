use Rattle.cli_changes.proofs.ImportLaws.{captures_one}
use Rattle.cli_changes.specs.Spaces.{is_full}
use Rattle.cli_changes.proofs.import_room.ImportRoomOldMailroom.capture.Goals as goal

pub returns : goal.returns
returns g c = record {
  call = captures_one g.A.Records.keeper _ _ _ _ _ c.capture_while_space.result (is_full c.args.self.now.place.space)
      c.capture_while_space.ensures.full c.capture_while_space.ensures.taken;
}
