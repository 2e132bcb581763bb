use Rattle.std.proofs.Common.{arith}
use Rattle.std.proofs.lemmas.Bool.Decides.{nat_tests}
use Rattle.record_history.specs.Views.{event_view}
use Rattle.record_judge.proofs.judge.Judge.read_next.Goals as goal

pub returns-then-number-self-clause-err : goal.returns-then-number-self-clause-err
returns-then-number-self-clause-err c = λ number mark. (
  c.in-Ok.read.0,
  (event_view c.in-Ok.read.1, (c.in-Ok.ensures.found, λ same. grind (arith, nat_tests, same, c.if-number-self.true))),
)
