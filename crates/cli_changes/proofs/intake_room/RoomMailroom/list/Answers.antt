use Rattle.std.proofs.Common.{ap, map, refl}
use Rattle.std.specs.Prelude.{string_bytes}
use Rattle.cli_sources.specs.declared.maildir.NewMail.{NewMail}
use Rattle.cli_changes.proofs.IntakeLaws.{made_then, quietly}
use Rattle.cli_changes.proofs.intake_room.RoomMailroom.list.Goals as goal

pub returns-clause-made : goal.returns-clause-made
returns-clause-made g c = λ done h.
    made_then g.A.Records.keeper done _ c.args.self.now _ h
    (ap (λ (m : NewMail). map string_bytes m.names.items) c.replace-mail.ensures.value, quietly _ _ refl refl refl refl refl)
