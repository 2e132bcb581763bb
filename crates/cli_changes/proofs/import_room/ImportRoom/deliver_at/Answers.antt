use Rattle.std.proofs.Common.{ℕ, List}
use Rattle.cli_changes.proofs.DeliveryLaws.{delivered_for}
use Rattle.cli_changes.proofs.import_room.ImportRoom.deliver_at.Goals as goal

pub returns-clause-delivered : goal.returns-clause-delivered
returns-clause-delivered g c = λ (octets : List ℕ) of.
    delivered_for g.A.Records.keeper _ _ _ _ _ octets _ _ _ _ c.as_bytes-officer.ensures.value (c.deliver.ensures octets of)
