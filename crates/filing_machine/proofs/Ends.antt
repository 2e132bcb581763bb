-- The run of a verified program ends within its budget.
use Rattle.std.proofs.Common.{◌≡◌, ℕ, ◌+◌, ◌≤◌, Option, refl, sym, ap, ◌∙◌, arith, inl, inr}
use Rattle.std.proofs.lemmas.Bool.{cases_lt}
use Rattle.filing_image.specs.Program.{Program}
use Rattle.filing_verify.specs.Well.{IsWell}
use Rattle.sieve_meaning.specs.declared.outcome.Outcome.{Outcome}
use Rattle.sieve_meaning.specs.declared.run_fault.RunFault.{RunFault}
use Rattle.sieve_meaning.specs.Case.{Facts}
use Rattle.sieve_meaning.specs.Outcome.{outcome_at}
use Rattle.filing_table.specs.Machine.{State, Run, At, Over, Trap, after_steps}
use Rattle.filing_table.specs.Ends.{Ends, outcome_left, HasOutcome}
use Rattle.filing_table.proofs.Once.{over_is_not_at, first_end}
use Rattle.filing_machine.specs.declared.state.Progress.{Progress}
use Rattle.filing_machine.specs.declared.state.Progress.TheVariants.{Ended}
use Rattle.filing_machine.specs.StateViews.{state, run_at}
use Rattle.filing_machine.specs.Runs.{Snapshot, IsOnRun}
use Rattle.filing_machine.proofs.Sound.{keeps, in_budget, never_traps}

-- an end within the budget
abbrev EndsWithin : Program → Facts → Type 0
EndsWithin p c = (n : ℕ) × (o : Outcome) × (n ≤ p.budget) × HasOutcome p c n o

module _ (p : Program) (c : Facts) (well : IsWell p) where
  not_at : (t : State) → At t ≡ after_steps p c p.budget → ⊥
  not_at t e =
      let most : p.budget + 1 ≤ p.budget = in_budget p c well p.budget t (keeps p c well p.budget t e) in
      omega arith

  ends_by : (m : ℕ) (f : Option RunFault) (s : State) → after_steps p c p.budget ≡ Over f s → Ends p c m f s → EndsWithin p c
  ends_by m f s e ends =
      elim (cases_lt p.budget m) [
        | inl lt ↦ let (t, at) = ends.going p.budget lt in absurd (over_is_not_at f s t (sym e ∙ at))
        | inr le ↦ (m, outcome_left f s, le, (f, s, ends, refl))
      ]

  by_run : (r : Run) → after_steps p c p.budget ≡ r → EndsWithin p c
  by_run (At t) e = absurd (not_at t (sym e))
  by_run (Over f s) e = let (m, ends) = first_end p c p.budget f s e in ends_by m f s e ends
  by_run Trap e = absurd (never_traps p c well p.budget e)

  pub ends_within : EndsWithin p c
  ends_within = by_run (after_steps p c p.budget) refl

-- a machine that has ended is at the end of its run
pub ends_here : (p : Program) (c : Facts) (m : Snapshot) (fault : Option RunFault) → m.progress ≡ Ended fault
    → IsOnRun p c m → Ends p c m.steps fault (state c m.at)
ends_here p c m fault ended stands = record {
  over = sym stands.on_run ∙ ap (λ (progress : Progress). run_at progress (state c m.at)) ended;
  going = stands.going;
}

pub outcome_here : (p : Program) (c : Facts) (m : Snapshot) (fault : Option RunFault) (o : Outcome)
    → m.progress ≡ Ended fault → o ≡ outcome_at fault m.at.filed m.at.kept m.at.cancelled → IsOnRun p c m
    → HasOutcome p c m.steps o
outcome_here p c m fault o ended e stands = (fault, state c m.at, ends_here p c m fault ended stands, sym e)
