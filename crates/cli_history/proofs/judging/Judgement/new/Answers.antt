use Rattle.std.proofs.Common.{[], refl}
use Rattle.cli_history.proofs.judging.Judgement.new.Goals as goal

pub returns-clause-judged : goal.returns-clause-judged
returns-clause-judged c = λ sound. record { judged = c.in_ok-watch.ensures.judges; events = []; tell = refl; stage = c.none.ensures; met = refl }
