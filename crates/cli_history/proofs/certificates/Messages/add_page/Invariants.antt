use Rattle.cli_history.specs.Walks.{Looks}
use Rattle.cli_history.proofs.certificates.Messages.add_page.Given as goal

abbrev pub invariant-loop-row : goal.invariant-loop-row
invariant-loop-row g l = Looks g.S.Store l.fn.noted l.noted
