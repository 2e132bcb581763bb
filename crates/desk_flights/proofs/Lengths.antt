-- The steps of a machine and the length of its run.
use Rattle.std.proofs.Common.{◌≡◌, ◌<◌, ◌+◌, ℕ, min, refl, arith, ap, ◌∙◌, sym, inl, inr, Option}
use Rattle.std.proofs.lemmas.Bool.{cases_order}
use Rattle.filing_image.specs.Program.{Program}
use Rattle.sieve_meaning.specs.declared.outcome.Outcome.{Outcome}
use Rattle.sieve_meaning.specs.declared.run_fault.RunFault.{RunFault}
use Rattle.sieve_meaning.specs.Case.{Facts}
use Rattle.filing_table.specs.Machine.{At, after_steps}
use Rattle.filing_table.specs.Ends.{HasOutcome}
use Rattle.filing_table.proofs.Once.{one_step, over_is_not_at}
use Rattle.filing_machine.specs.declared.state.Progress.{Progress}
use Rattle.filing_machine.specs.declared.state.Progress.TheVariants.{Going, Ended}
use Rattle.filing_machine.specs.StateViews.{state, run_at}
use Rattle.filing_machine.specs.Runs.{Snapshot, IsOnRun}
use Rattle.filing_machine.proofs.Ends.{outcome_here}
use Rattle.desk_flights.specs.Machines.{HasMade}

-- a machine that has ended has made all steps of its run
pub ended_at : (p : Program) (c : Facts) (m : Snapshot) (n : ℕ) (o : Outcome) (fault : Option RunFault)
    → m.progress ≡ Ended fault → IsOnRun p c m → HasOutcome p c n o → m.steps ≡ n
ended_at p c m n o fault e h k = one_step p c m.steps n _ o (outcome_here p c m fault _ e refl h) k

pub runs_at : (p : Program) (c : Facts) (m : Snapshot) → m.progress ≡ Going → IsOnRun p c m → after_steps p c m.steps ≡ At (state c m.at)
runs_at p c m e h = sym h.on_run ∙ ap (λ progress. run_at progress (state c m.at)) e

-- and one that has not has made fewer
pub running_before : (p : Program) (c : Facts) (m : Snapshot) (n : ℕ) (o : Outcome) → m.progress ≡ Going → IsOnRun p c m
    → HasOutcome p c n o → m.steps < n
running_before p c m n o e h k = elim (cases_order m.steps n) [
  | inl same ↦ absurd (over_is_not_at k.0 k.1 (state c m.at) (sym k.2.over ∙ ap (after_steps p c) (sym same) ∙ runs_at p c m e h))
  | inr (inl lt) ↦ lt
  | inr (inr gt) ↦ absurd (let t = h.going n gt in over_is_not_at k.0 k.1 t.0 (sym k.2.over ∙ t.1))
]

-- turns that are made one after another add up
pub made_by : (p : Program) (c : Facts) (old new : Snapshot) (n all k : ℕ) (o : Outcome) (progress : Progress)
    → new.progress ≡ progress → IsOnRun p c new → HasOutcome p c n o → old.steps ≡ min all n → HasMade old k new
    → new.steps ≡ min (all + k) n
made_by p c old new n all k o Going e h run at made =
    let early = running_before p c new n o e h run in
    let sum = made.all e in
    omega (arith, early, sum, at)
made_by p c old new n all k o (Ended fault) e h run at made =
    let late = ended_at p c new n o fault e h run in
    omega (arith, late, made.most, at)
