use Rattle.cli_tasks.specs.Commands.{IsTold}
use Rattle.cli_tasks.specs.Imports.{ImportsRound}
use Rattle.cli_tasks.specs.Rounds.{GoesThrough}
use Rattle.cli_tasks.proofs.imports.import.Given as goal

abbrev pub invariant-loop-round : goal.invariant-loop-round
invariant-loop-round g l =
    GoesThrough (ImportsRound g.A.Kept.Store (g.A.Archives.is_at l.fn.archives) l.fn.store (IsTold l.fn.told)) l.round l.initial.job
    l.initial.rounds l.job l.rounds
