use Rattle.cli_history.specs.Walks.{Glances}
use Rattle.cli_readings.proofs.export.write_events.Given as goal

abbrev pub invariant-loop : goal.invariant-loop
invariant-loop g l = Glances g.S.Store l.fn.archive l.archive
