use Rattle.std.proofs.Common.{◌≡◌, ◌≤◌, ◌-◌, ℕ, length, slice_get, Some}
use Rattle.filing_machine.specs.Runs.{IsOnRun}
use Rattle.filing_machine.specs.declared.trace.Step.{Step}
use Rattle.filing_machine.specs.StepRecords.{IsStepRecord}
use Rattle.filing_machine.proofs.trace.trace_run.Given as goal

-- the machine is in the run, and the steps that it has made are recorded
abbrev pub invariant-loop-machine : goal.invariant-loop-machine
invariant-loop-machine g l = record {
  stands : IsOnRun l.program (g.C.Case.facts l.case) l.machine;
  budget : l.machine.steps ≤ l.program.budget;
  whole : length l.steps.items ≡ l.machine.steps;
  told : (k : ℕ) (s : Step) → slice_get l.steps.items k ≡ Some s → IsStepRecord l.program (g.C.Case.facts l.case) k s;
}

abbrev pub decreases-loop-machine : goal.decreases-loop-machine
decreases-loop-machine g l = l.program.budget - l.machine.steps
