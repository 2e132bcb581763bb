-- A machine in its run may make a step.
use Rattle.std.proofs.Common.{◌≡◌, ◌≢◌, ℕ, ◌+◌, ◌<◌, ◌≤◌, length, List, Option, Some, None, sym, ap, ◌∙◌, arith, get_or, inl, inr}
use Rattle.std.proofs.lemmas.Bool.{cases_lt}
use Rattle.std.proofs.lemmas.List.{length-map}
use Rattle.std.proofs.lemmas.Option.{slice_get-get_or}
use Rattle.filing_image.specs.Program.{Program}
use Rattle.filing_image.specs.declared.instruction.Operation.TheVariants.{PushTrue}
use Rattle.filing_verify.specs.Well.{InRange, greatest_budget, IsWell}
use Rattle.sieve_meaning.specs.Case.{Facts}
use Rattle.filing_table.specs.Machine.{State, At, Trap, act, step, after_steps}
use Rattle.filing_machine.specs.declared.state.Progress.{Progress}
use Rattle.filing_machine.specs.declared.state.Progress.TheVariants.{Going}
use Rattle.filing_machine.specs.StateViews.{state, entry, run_at, IsModest}
use Rattle.filing_machine.specs.Runs.{Snapshot, run_view, IsOnRun, IsModestAt}
use Rattle.filing_machine.proofs.Sound.{keeps, sound, ranges, depth, room, in_budget, steps_to}

-- what a step relies on
pub record Ready (p : Program) (c : Facts) (m : Snapshot) : Type 0 where
  pub within : m.at.place < length p.code
  pub sound : act p c (get_or p.code m.at.place PushTrue) (state c m.at) ≢ Trap
  pub range : InRange p (get_or p.code m.at.place PushTrue)
  pub slots : p.slots ≤ 64
  pub deep : length m.at.stack ≤ 32
  pub room : length m.at.calls < 256
  pub budget : m.steps + 1 ≤ p.budget
  pub small : p.budget ≤ 1000000
  pub here : At (state c m.at) ≡ after_steps p c m.steps
  pub to : step p c (run_view c m) ≡ act p c (get_or p.code m.at.place PushTrue) (state c m.at)

budget_small : (x : Option (List ℕ)) (budget : ℕ) → budget ≤ greatest_budget x → budget ≤ 1000000
budget_small None budget le = omega arith
budget_small (Some firsts) budget le = le

pub ready : (p : Program) (c : Facts) (m : Snapshot) → IsWell p → m.progress ≡ Going → IsOnRun p c m → Ready p c m
ready p c m well running stands =
    let e : At (state c m.at) ≡ run_view c m = ap (λ (progress : Progress). run_at progress (state c m.at)) (sym running) in
    let k = keeps p c well m.steps (state c m.at) (e ∙ stands.on_run) in
    let deep = depth p c well m.steps (state c m.at) k in
    record {
      within = k.within;
      sound = sound p c well m.steps (state c m.at) k;
      range = ranges p c well m.steps (state c m.at) k;
      slots = well.in_range.slots;
      deep = omega (arith, deep, length-map m.at.stack (entry c));
      budget = in_budget p c well m.steps (state c m.at) k;
      room = room p c well m.steps (state c m.at) k;
      small = budget_small p.procedures p.budget well.within.most;
      here = e ∙ stands.on_run;
      to = ap (step p c) (sym e) ∙ steps_to p c well m.steps (state c m.at) k;
    }

-- it was at a place at each step below n, and at n, and so below n + 1
pub one_more : (p : Program) (c : Facts) (n : ℕ) (u : State) → At u ≡ after_steps p c n
    → ((k : ℕ) → k < n → (t : State) × (after_steps p c k ≡ At t)) → (k : ℕ) → k < n + 1 → (t : State)
    × (after_steps p c k ≡ At t)
one_more p c n u e before k lt =
    elim (cases_lt k n) [
      | inl less ↦ before k less
      | inr ge ↦ let same : k ≡ n = omega arith in (u, ap (after_steps p c) same ∙ sym e)
    ]

pub modest_here : (p : Program) (place : ℕ) → place < length p.code → IsModestAt p place → IsModest (get_or p.code place PushTrue)
modest_here p place lt modest = modest (get_or p.code place PushTrue) (slice_get-get_or p.code place PushTrue lt)
