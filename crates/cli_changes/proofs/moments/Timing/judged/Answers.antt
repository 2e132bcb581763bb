use Rattle.std.proofs.Common.{ℕ}
use Rattle.std.proofs.lemmas.Result.{IfOk-weaker}
use Rattle.cli_changes.proofs.moments.Timing.judged.Goals as goal

pub returns : goal.returns
returns c = IfOk-weaker c.judged_at.result _ _ (λ (moment : ℕ) is. (c.in_ok-clock.clock, is)) c.judged_at.ensures
