use Rattle.cli_history.specs.Walks.{Looks}
use Rattle.cli_history.proofs.comparison.tell_differences.Given as goal

abbrev pub invariant-loop-number : goal.invariant-loop-number
invariant-loop-number g l = Looks g.S.Store l.fn.noted l.noted
