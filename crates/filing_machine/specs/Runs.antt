-- A machine in a run of a program in a case.
use Rattle.std.specs.Prelude.{◌≡◌, ℕ, ◌<◌, Option, Some, slice_get}
use Rattle.std.specs.List.{AllByRecursion}
use Rattle.filing_image.specs.Program.{Program}
use Rattle.filing_image.specs.declared.instruction.Operation.{Operation}
use Rattle.sieve_meaning.specs.declared.outcome.Outcome.{Outcome}
use Rattle.sieve_meaning.specs.declared.run_fault.RunFault.{RunFault}
use Rattle.sieve_meaning.specs.Case.{Facts}
use Rattle.sieve_meaning.specs.Outcome.{outcome_at}
use Rattle.filing_table.specs.Machine.{State, Run, At, after_steps}
use Rattle.filing_machine.specs.declared.state.Progress.{Progress}
use Rattle.filing_machine.specs.declared.state.Progress.TheVariants.{Ended}
use Rattle.filing_machine.specs.declared.state.RunState.{RunState}
use Rattle.filing_machine.specs.StateViews.{state, run_at, InCase, IsModest}

-- what a machine keeps: its state, how far its run has come, and the number of its steps so far
pub record Snapshot : Type 0 where
  pub at : RunState
  pub progress : Progress
  pub steps : ℕ

-- where the run of a machine is
abbrev pub run_view : Facts → Snapshot → Run
run_view c m = run_at m.progress (state c m.at)

-- The machine is where the run of this program in this case is after the machine's steps. Before each of them the run
-- had not ended.
pub record IsOnRun (p : Program) (c : Facts) (m : Snapshot) : Type 0 where
  pub on_run : run_view c m ≡ after_steps p c m.steps
  pub going : (k : ℕ) → k < m.steps → (t : State) × (after_steps p c k ≡ At t)
  pub in_case : AllByRecursion (InCase c) m.at.stack

-- The instruction at this place takes no memory.
abbrev pub IsModestAt : Program → ℕ → Type 0
IsModestAt p place = (o : Operation) → slice_get p.code place ≡ Some o → IsModest o

-- The machine has ended, with or without a fault, and this is what it captures.
abbrev pub Leaves : Snapshot → Outcome → Type 0
Leaves m o = (fault : Option RunFault) × (m.progress ≡ Ended fault) × (o ≡ outcome_at fault m.at.filed m.at.kept m.at.cancelled)
