use Rattle.std.proofs.Common.{sym}
use Rattle.cli_history.proofs.printing.PrintedHistory.end.Goals as goal

pub returns-clause-sound : goal.returns-clause-sound
returns-clause-sound c = sym c.in_ok-end.ensures
