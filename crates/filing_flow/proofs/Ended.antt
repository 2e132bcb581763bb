-- The run of a program of code in blocks ends as the code does.
use Rattle.std.proofs.Common.{◌≡◌, ℕ, zero, suc, ◌+◌, [], Option, refl, sym, ap, ◌∙◌, subst}
use Rattle.filing_image.specs.Program.{Program}
use Rattle.sieve_meaning.specs.declared.run_fault.RunFault.{RunFault}
use Rattle.sieve_meaning.specs.Case.{Facts}
use Rattle.filing_table.specs.Machine.{State, Run, At, step, start, after_steps}
use Rattle.filing_table.specs.Ends.{HasOutcome}
use Rattle.filing_table.proofs.Once.{first_end}
use Rattle.filing_flow.specs.Structure.{size, without_procedures}
use Rattle.filing_flow.specs.Effect.{FlowState, Exit, no_calls, effect}
use Rattle.filing_flow.specs.Whole.{whole, nothing_done, outcome_from, RunsAsItsCode}
use Rattle.filing_flow.proofs.Follow.{steps, on, OverAt, Arrives, flow_runs}

steps_last : (p : Program) (c : Facts) (n : ℕ) (x : Run) → steps p c n (step p c x) ≡ step p c (steps p c n x)
unfolding steps
steps_last p c zero x = refl
steps_last p c (suc n) x = steps_last p c n (step p c x)

after_is : (p : Program) (c : Facts) (n : ℕ) → after_steps p c n ≡ steps p c n (At start)
unfolding steps
after_is p c zero = refl
after_is p c (suc n) = ap (step p c) (after_is p c n) ∙ sym (steps_last p c n (At start))

pub outcome_at_end : (p : Program) (c : Facts) (fault : Option RunFault) (f : FlowState)
    → OverAt p c (At (on [] nothing_done 0 [])) fault f → (n : ℕ) × HasOutcome p c n (outcome_from fault f)
outcome_at_end p c fault f over =
    let s : State = on over.calls f over.pc over.stack in
    let (n, ends) = first_end p c over.comes.count fault s (after_is p c over.comes.count ∙ over.comes.leads) in
    (n, (fault, s, ends, refl))

pub program_ends : RunsAsItsCode
program_ends p c a fault f is ok means =
    let from : Run = At (on [] nothing_done 0 []) in
    let runs : Arrives p c [] (effect no_calls c (whole a) nothing_done []) (0 + size (whole a)) [] from =
    flow_runs p c [] no_calls (λ b f pc ends at. tt) (without_procedures p.slots) refl (whole a) [] 0 nothing_done
    [] (ok, tt) is.stands in
    outcome_at_end p c fault f (subst (λ (x : Exit). Arrives p c [] x (0 + size (whole a)) [] from) means runs)
