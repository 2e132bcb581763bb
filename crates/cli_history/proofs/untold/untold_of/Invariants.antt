use Rattle.cli_history.specs.Walks.{Looks}
use Rattle.cli_history.proofs.untold.untold_of.Given as goal

abbrev pub invariant-loop : goal.invariant-loop
invariant-loop g l = Looks g.S.Store l.fn.noted l.noted
