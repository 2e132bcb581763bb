use Rattle.std.proofs.Common.{ap, refl}
use Rattle.cli_changes.proofs.ImportLaws.{says_one}
use Rattle.cli_changes.specs.declared.import_rounds.Reached.{Reached}
use Rattle.cli_changes.proofs.import_room.ImportRoomOldMailroom.tell.Goals as goal

pub returns : goal.returns
returns g c = record {
  call = says_one g.A.Records.keeper _ c.speak.new.self _ _ c.speak.ensures refl refl refl
      (ap (λ (r : Reached). r.messages) c.pass.ensures) (λ h. h);
}
