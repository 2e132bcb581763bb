-- Programs of procedures: the code of each in one block, and a RETURN after it. They stand one after the other, and each
-- calls only those after it. Procedures are counted from 0, which is the one that the run begins with.
use Rattle.std.specs.Prelude.{◌≡◌, ℕ, suc, ◌+◌, ◌≤◌, List, [], ◌∷◌, length, Option, Some, slice_get, nat_eq, if◌then◌else◌}
use Rattle.filing_image.specs.Program.{Program}
use Rattle.filing_image.specs.declared.instruction.Operation.{Operation}
use Rattle.filing_image.specs.declared.instruction.Operation.TheVariants.{Return}
use Rattle.filing_verify.specs.Well.{IsWell}
use Rattle.sieve_meaning.specs.declared.run_fault.RunFault.{RunFault}
use Rattle.sieve_meaning.specs.Case.{Facts}
use Rattle.filing_table.specs.Ends.{HasOutcome}
use Rattle.filing_flow.specs.Structure.{Action, CallTo, End, Flow, nothing, action, sequence, block, leave, leave_if, size, IsSound}
use Rattle.filing_flow.specs.Code.{Operands, places_in, Stands}
use Rattle.filing_flow.specs.Effect.{FlowState, Stuck, EndsRun, CallEffects, effect}
use Rattle.filing_flow.specs.Types.{HasType}
use Rattle.filing_flow.specs.Whole.{nothing_done, outcome_from}

-- CODE

-- where each procedure begins, from a place on
abbrev pub places_from : (place : ℕ) → List Flow → List ℕ
places_from place [] = []
places_from place (a ∷ later) = place ∷ places_from (place + size a + 1) later

-- the number of operations of all
abbrev pub whole_size : List Flow → ℕ
whole_size [] = 0
whole_size (a ∷ later) = size a + 1 + whole_size later

-- These operations encode the procedures from a place on.
abbrev pub ProceduresStand : Operands → List Operation → List Flow → (place : ℕ) → Type 0
ProceduresStand n os [] place = Unit {0}
ProceduresStand n os (a ∷ later) place = Stands n os (block a) [] place × (slice_get os (place + size a) ≡ Some Return) ×
    ProceduresStand n os later (place + size a + 1)

-- The program is these procedures.
pub record AreProceduresOf (p : Program) (procedures : List Flow) : Type 0 where
  pub places : p.procedures ≡ Some (places_from 0 procedures)
  pub stand : ProceduresStand (places_in p.texts p.numbers) p.code procedures 0
  pub long : length p.code ≡ whole_size procedures

-- each has sound operands, where the first of these has the number `own`
abbrev pub AreSound : (slots count own : ℕ) → List Flow → Type 0
AreSound slots count own [] = Unit {0}
AreSound slots count own (a ∷ later) = IsSound (record { slots = slots; own = own; procedures = count }) a ×
    AreSound slots count (suc own) later

-- each begins and ends with the empty stack
abbrev pub AreTyped : List Flow → Type 0
AreTyped [] = Unit {0}
AreTyped (a ∷ later) = HasType (block a) [] [] [] × AreTyped later

-- EFFECT

-- what a call does, where these are the procedures from this number on
abbrev pub called_by : Facts → (from : ℕ) → List Flow → CallEffects
called_by c from [] b f = Stuck
called_by c from (a ∷ later) b f = if nat_eq b from
    then effect (called_by c (suc from) later) c (block a) f []
    else called_by c (suc from) later b f

-- STEPS

-- the steps that a call takes beside its own
abbrev pub action_steps : (calls : ℕ → ℕ) → Action → ℕ
action_steps calls (CallTo b) = calls b
action_steps calls _ = 0

-- the steps of all operations: a run takes no more, since it never comes to an operation twice
abbrev pub flow_steps : (calls : ℕ → ℕ) → Flow → ℕ
flow_steps calls nothing = 0
flow_steps calls (action x) = 1 + action_steps calls x
flow_steps calls (sequence a b) = flow_steps calls a + flow_steps calls b
flow_steps calls (block a) = flow_steps calls a
flow_steps calls (leave n) = 1
flow_steps calls (leave_if t n) = 1

-- those of the procedure with a number, where these are the procedures from this number on
abbrev pub steps_by : (from : ℕ) → List Flow → ℕ → ℕ
steps_by from [] b = 0
steps_by from (a ∷ later) b = if nat_eq b from
    then flow_steps (steps_by (suc from) later) a + 1
    else steps_by (suc from) later b

-- LAWS

-- calls the first procedure, and then ends the run
abbrev pub first_call : Flow
first_call = sequence (action (CallTo 0)) (action End)

-- A program of sound procedures runs on the table machine as the call of the first one, and then the end of the run.
-- Where that code ends the run, the run of the program ends. The fault and the outcome are the same.
abbrev pub RunsAsItsProcedures : Type 0
RunsAsItsProcedures = (p : Program) (c : Facts) (procedures : List Flow) (fault : Option RunFault) (f : FlowState) →
    AreProceduresOf p procedures → AreSound p.slots (length procedures) 0 procedures →
    effect (called_by c 0 procedures) c first_call nothing_done [] ≡ EndsRun fault f → (n : ℕ) ×
    HasOutcome p c n (outcome_from fault f)

-- A program of 1 to 256 procedures that have types and are sound may run, where its budget has the steps of the first.
abbrev pub TypedProceduresAreWell : Type 0
TypedProceduresAreWell = (p : Program) (procedures : List Flow) → AreProceduresOf p procedures → AreTyped procedures →
    AreSound p.slots (length procedures) 0 procedures → p.slots ≤ 64 → 1 ≤ length procedures →
    length procedures ≤ 256 → steps_by 0 procedures 0 ≤ p.budget → p.budget ≤ 1000000 → IsWell p
