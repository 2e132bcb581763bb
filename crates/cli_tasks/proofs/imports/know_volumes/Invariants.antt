use Rattle.cli_tasks.specs.Captured.{KnowsVolumes}
use Rattle.cli_tasks.proofs.imports.know_volumes.Given as goal

abbrev pub invariant-loop-done : goal.invariant-loop-done
invariant-loop-done g l =
    KnowsVolumes g.A.Kept.Store (g.A.Archives.is_at l.fn.archives) l.fn.folder l.fn.officer l.fn.from l.done l.fn.rounds l.rounds
