use Rattle.std.proofs.Common.{◌≡◌, Ok}
use Rattle.cli_tasks.proofs.CopyLemmas.{found_as}
use Rattle.cli_tasks.proofs.copy.finish.Goals as goal

pub returns-clause-filled : goal.returns-clause-filled
returns-clause-filled g c =
    found_as c.compare-found.result c.settle.result (λ x. c.args.filled ≡ Ok tt) c.settle.ensures c.compare-found.ensures.filled

pub returns-clause-same : goal.returns-clause-same
returns-clause-same g c =
    found_as c.compare-found.result c.settle.result (λ x. x.sum ≡ c.args.kept.now.sum) c.settle.ensures c.compare-found.ensures.same
