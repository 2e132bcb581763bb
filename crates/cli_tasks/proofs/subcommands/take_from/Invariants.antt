use Rattle.cli_tasks.specs.Commands.{IsTold}
use Rattle.cli_tasks.specs.Rounds.{GoesThrough, IntakesRound}
use Rattle.cli_tasks.proofs.subcommands.take_from.Given as goal

abbrev pub invariant-loop : goal.invariant-loop
invariant-loop g l =
    GoesThrough (IntakesRound g.A.Kept.Store (g.A.Archives.is_at l.fn.archives) l.fn.store (IsTold l.fn.told)) l.counter l.initial.job
    l.initial.rounds l.job l.rounds
