use Rattle.std.proofs.Common.{◌≤◌, ◌-◌}
use Rattle.filing_machine.specs.Runs.{IsOnRun}
use Rattle.filing_machine.proofs.machine.run.Given as goal

abbrev pub invariant-loop-machine : goal.invariant-loop-machine
invariant-loop-machine g l = record {
  stands : IsOnRun l.program (g.C.Case.facts l.case) l.machine;
  budget : l.machine.steps ≤ l.program.budget;
}

abbrev pub decreases-loop-machine : goal.decreases-loop-machine
decreases-loop-machine g l = l.program.budget - l.machine.steps
