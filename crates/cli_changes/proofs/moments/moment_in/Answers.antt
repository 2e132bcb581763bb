use Rattle.std.proofs.Common.{ℕ, subst}
use Rattle.std.proofs.lemmas.Result.{IfOk-weaker}
use Rattle.cli_changes.specs.Moments.{IsMomentNow}
use Rattle.cli_changes.proofs.moments.moment_in.Goals as goal

pub returns-clause-moment : goal.returns-clause-moment
returns-clause-moment g c =
    IfOk-weaker c.moment.result _ _ (λ (moment : ℕ) now. (
      c.look.new.self.last,
      subst (λ asked. IsMomentNow asked c.look.new.self.last moment) c.look.ensures.asked now,
      c.in_ok-look.ensures.last,
    )) c.moment.ensures.moment
