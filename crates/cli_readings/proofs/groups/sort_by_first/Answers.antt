use Rattle.std.proofs.Common.{rules}
use Rattle.std.proofs.lemmas.Result.{on_ok_weaker}
use Rattle.cli_readings.proofs.Grouped.{by_first}
use Rattle.cli_readings.proofs.groups.sort_by_first.Goals as goal

pub returns-clause-ordered : goal.returns-clause-ordered
returns-clause-ordered c = on_ok_weaker c.sort_by.result (λ sorted. by_first _ sorted (λ a r q k. search rules)) c.sort_by.ensures.sorted
