use Rattle.std.proofs.Common.{inr}
use Rattle.cli_tasks.proofs.rolling.place_at_first.Goals as goal

pub returns : goal.returns
returns c = record { is_in = c.in_ok-last.ensures; place_is = inr c.in_ok-before.ensures }
