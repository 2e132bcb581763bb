use Rattle.std.proofs.Common.{ℕ, List}
use Rattle.cli_changes.proofs.DeliveryLaws.{delivered_for}
use Rattle.cli_changes.proofs.intake_room.Room.deliver_now.Goals as goal

pub returns-clause-delivered : goal.returns-clause-delivered
returns-clause-delivered g c = λ (octets : List ℕ) of. (
  c.in_ok-moment.moment,
  c.in_ok-moment.ensures.moment,
  delivered_for g.A.Records.keeper _ _ _ _ _ octets _ _ _ _ c.as_bytes-officer.ensures.value (c.deliver.ensures octets of),
)
