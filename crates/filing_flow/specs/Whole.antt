-- Programs of code in blocks: the code, and the end of the run.
use Rattle.std.specs.Prelude.{◌≡◌, ℕ, ◌+◌, ◌<◌, ◌≤◌, ◌^◌, [], Option, None, replicate, false, length}
use Rattle.filing_image.specs.Program.{Program}
use Rattle.filing_verify.specs.Well.{IsWell}
use Rattle.sieve_meaning.specs.declared.outcome.Outcome.{Outcome}
use Rattle.sieve_meaning.specs.declared.run_fault.RunFault.{RunFault}
use Rattle.sieve_meaning.specs.Case.{Facts}
use Rattle.sieve_meaning.specs.Outcome.{outcome_at}
use Rattle.filing_table.specs.Ends.{HasOutcome}
use Rattle.filing_flow.specs.Structure.{Flow, sequence, block, action, End, size, without_procedures, IsSound}
use Rattle.filing_flow.specs.Code.{places_in, Stands}
use Rattle.filing_flow.specs.Effect.{FlowState, EndsRun, no_calls, effect}
use Rattle.filing_flow.specs.Types.{HasType}

-- the code in one block, and after it the end of the run, to which a jump out of the code goes
abbrev pub whole : Flow → Flow
whole a = sequence (block a) (action End)

-- The code of the program is this code and the end of the run, without procedures.
pub record IsCodeOf (p : Program) (a : Flow) : Type 0 where
  pub one_piece : p.procedures ≡ None
  pub stands : Stands (places_in p.texts p.numbers) p.code (whole a) [] 0
  pub long : length p.code ≡ size (whole a)

-- before a run: nothing is filed, and no flag and no slot is set
abbrev pub nothing_done : FlowState
nothing_done = record { filed = []; kept = false; cancelled = false; marks = replicate 64 false }

-- the outcome of a run that ends in this state, with this fault or with none
abbrev pub outcome_from : Option RunFault → FlowState → Outcome
outcome_from fault f = outcome_at fault f.filed f.kept f.cancelled

-- A program of sound code runs on the table machine as its code runs in blocks: where the code ends the run, the run of
-- the program ends, with the same fault and the same outcome.
abbrev pub RunsAsItsCode : Type 0
RunsAsItsCode = (p : Program) (c : Facts) (a : Flow) (fault : Option RunFault) (f : FlowState) → IsCodeOf p a →
    IsSound (without_procedures p.slots) a → effect no_calls c (whole a) nothing_done [] ≡ EndsRun fault f → (n : ℕ) ×
    HasOutcome p c n (outcome_from fault f)

-- A program of code that has a type and is sound may run, where its budget has a step for each operation.
abbrev pub TypedIsWell : Type 0
TypedIsWell = (p : Program) (a : Flow) → IsCodeOf p a → HasType (block a) [] [] [] →
    IsSound (without_procedures p.slots) a → p.slots ≤ 64 → size a + 1 ≤ p.budget → p.budget < 2 ^ 16 → IsWell p
