-- How a run ends, and the classes that it captures.
use Rattle.std.specs.Prelude.{◌≡◌, ℕ, ◌<◌, Option}
use Rattle.filing_image.specs.Program.{Program}
use Rattle.sieve_meaning.specs.declared.outcome.Outcome.{Outcome}
use Rattle.sieve_meaning.specs.declared.run_fault.RunFault.{RunFault}
use Rattle.sieve_meaning.specs.Case.{Facts}
use Rattle.sieve_meaning.specs.Outcome.{outcome_at}
use Rattle.filing_table.specs.Machine.{State, At, Over, after_steps}

-- The run of the program in the case ends with its nth step, with this fault or with none, in this state.
pub record Ends (p : Program) (c : Facts) (n : ℕ) (fault : Option RunFault) (s : State) : Type 0 where
  pub over : after_steps p c n ≡ Over fault s
  pub going : (k : ℕ) → k < n → (t : State) × (after_steps p c k ≡ At t)

-- the outcome of a run that ended in this state, with this fault or with none
abbrev pub outcome_left : Option RunFault → State → Outcome
outcome_left fault s = outcome_at fault s.filed s.kept s.cancelled

-- The run of the program in the case ends with its nth step, with this outcome.
abbrev pub HasOutcome : Program → Facts → ℕ → Outcome → Type 0
HasOutcome p c n o = (fault : Option RunFault) × (s : State) × Ends p c n fault s × (outcome_left fault s ≡ o)
