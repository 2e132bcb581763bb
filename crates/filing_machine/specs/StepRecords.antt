-- What is recorded of a step of a run, by the table machine.
use Rattle.std.specs.Prelude.{◌≡◌, ℕ, ◌+◌, Bool, true, false, List, Option, Some, None, is_some, IfSome, slice_get}
use Rattle.filing_image.specs.declared.instruction.Operation.{Operation}
use Rattle.filing_image.specs.declared.instruction.Operation.TheVariants.{Match}
use Rattle.filing_image.specs.Program.{Program}
use Rattle.sieve_meaning.specs.Case.{Facts}
use Rattle.filing_table.specs.Machine.{State, Run, At, Over, Trap, start, after_steps}
use Rattle.filing_machine.specs.Tops.{top_of_stack, any_on_top, value_matches}
use Rattle.filing_machine.specs.declared.trace.Step.{Step}

-- the state before an instruction or at the end
abbrev pub state_of : Run → State
state_of (At s) = s
state_of (Over fault s) = s
state_of Trap = start

-- a test of the key of a MATCH, false where there is no key
abbrev pub by_key : Option (List ℕ) → (List ℕ → Bool) → Bool
by_key None test = false
by_key (Some key) test = test key

abbrev pub of_match : Program → Option Operation → (ℕ → List ℕ → Bool) → Bool
of_match p (Some (Match comparison key)) test = by_key (slice_get p.texts key) (test comparison)
of_match p _ test = false

-- whether the next instruction is a MATCH, and a value of the list on the top of the stack matches its key
abbrev pub finds : Program → State → Bool
finds p s = of_match p (slice_get p.code s.place) (λ comparison key. any_on_top comparison key s.stack)

-- whether the instruction at a place is a MATCH, and the value of this field of the header matches its key
abbrev pub is_found_by : Program → Facts → ℕ → ℕ → Bool
is_found_by p c place field = of_match p (slice_get p.code place)
    (λ comparison key. value_matches c comparison key field)

-- This is the record of the step that the run makes after k steps.
pub record IsStepRecord (p : Program) (c : Facts) (k : ℕ) (step : Step) : Type 0 where
  pub place : step.place ≡ (state_of (after_steps p c k)).place
  pub top : step.top ≡ top_of_stack (state_of (after_steps p c (k + 1))).stack
  pub found : is_some step.matched ≡ finds p (state_of (after_steps p c k))
  pub matched : IfSome step.matched (λ field. is_found_by p c step.place field ≡ true)
