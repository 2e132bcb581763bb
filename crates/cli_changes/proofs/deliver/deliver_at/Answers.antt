use Rattle.std.proofs.Common.{ℕ, List}
use Rattle.cli_changes.proofs.deliver.deliver_at.Goals as goal

pub returns-in-Ok-deliver_in_time : goal.returns-in-Ok-deliver_in_time
returns-in-Ok-deliver_in_time g c = λ (octets : List ℕ) of. (
  c.in-Ok.desk,
  c.deliver_in_time.new.desk,
  c.in-Ok.ensures.desk,
  c.in-Ok-deliver_in_time.ensures octets of,
  c.into_store-archive.ensures.store,
)
