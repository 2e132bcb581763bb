use Rattle.std.proofs.Common.{subst}
use Rattle.cli_changes.specs.Moments.{IsMomentNow}
use Rattle.cli_changes.proofs.moments.timing_in.Goals as goal

pub returns-clause-judged : goal.returns-clause-judged
returns-clause-judged g c = (
  c.in_ok-moment.field-0,
  (
    c.look.new.self.last,
    subst (λ asked. IsMomentNow asked c.look.new.self.last c.in_ok-moment.field-0) c.look.ensures.asked c.in_ok-moment.ensures.moment,
    c.in_ok-look.ensures.last,
  ),
)
