use Rattle.std.proofs.Common.{ℕ, List, Ok}
use Rattle.cli_changes.proofs.DeliveryLaws.{delivered_for}
use Rattle.cli_changes.proofs.deliver.deliver_in_time.Goals as goal

pub returns-in-Ok : goal.returns-in-Ok
returns-in-Ok g c = λ (octets : List ℕ) of.
    delivered_for g.A.Records.keeper _ _ _ _ _ octets _ (Ok c.in-Ok.done) _ _ c.as_bytes-officer.ensures.value (c.in-Ok.ensures octets of)
