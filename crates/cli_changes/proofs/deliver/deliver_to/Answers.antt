use Rattle.std.proofs.Common.{ℕ, List}
use Rattle.std.proofs.lemmas.Result.{IfOk-weaker}
use Rattle.cli_changes.specs.declared.deliver.Delivered.{Delivered}
use Rattle.cli_changes.proofs.deliver.deliver_to.Goals as goal

pub returns-in-Ok : goal.returns-in-Ok
returns-in-Ok g c =
    IfOk-weaker c.deliver_at.result.1 _ _ (λ (d : Delivered) is (octets : List ℕ) of. record {
      looked = c.moment_in.new.archive;
      reads = c.moment_in.ensures.reads;
      moment = c.in-Ok.moment;
      judged = c.in-Ok.ensures.moment;
      delivered = is octets of;
    }) c.deliver_at.ensures
