use Rattle.std.proofs.Common.{◌≡◌, ◌≤◌, ◌+◌}
use Rattle.filing_machine.specs.declared.state.Progress.TheVariants.{Going}
use Rattle.filing_machine.specs.Runs.{IsOnRun}
use Rattle.desk_flights.proofs.flight.make_steps.Given as goal

abbrev pub invariant-loop : goal.invariant-loop
invariant-loop g l = record {
  stands : IsOnRun l.program (g.C.Case.facts l.case) l.machine;
  most : l.machine.steps ≤ l.fn.machine.steps + l.counter;
  all : l.machine.progress ≡ Going → l.machine.steps ≡ l.fn.machine.steps + l.counter;
}
