-- A run ends once.
use Rattle.std.proofs.Common.{◌≡◌, ℕ, zero, suc, ◌<◌, Option, refl, sym, ap, ◌∙◌, arith, inl, inr}
use Rattle.std.proofs.lemmas.Bool.{cases_lt}
use Rattle.filing_image.specs.Program.{Program}
use Rattle.sieve_meaning.specs.declared.outcome.Outcome.{Outcome}
use Rattle.sieve_meaning.specs.declared.run_fault.RunFault.{RunFault}
use Rattle.sieve_meaning.specs.Case.{Facts}
use Rattle.filing_table.specs.Machine.{State, Run, At, Over, Trap, start, step, after_steps}
use Rattle.filing_table.specs.Ends.{Ends, outcome_left, HasOutcome}

fault_of : (f g : Option RunFault) (s t : State) → Over f s ≡ Over g t → f ≡ g
fault_of f g s t e = cc

state_of : (f g : Option RunFault) (s t : State) → Over f s ≡ Over g t → s ≡ t
state_of f g s t e = cc

pub over_is_not_at : (f : Option RunFault) (s t : State) → Over f s ≡ At t → ⊥
over_is_not_at f s t e = cc

trap_is_not_at : (t : State) → Trap ≡ At t → ⊥
trap_is_not_at t e = cc

trap_is_not_over : (f : Option RunFault) (s : State) → Trap ≡ Over f s → ⊥
trap_is_not_over f s e = cc

start_is_not_over : (f : Option RunFault) (s t : State) → At t ≡ Over f s → ⊥
start_is_not_over f s t e = cc

module _ (p : Program) (c : Facts) where
  not_before : (m n : ℕ) (f g : Option RunFault) (s t : State) → Ends p c m f s → Ends p c n g t → m < n → ⊥
  not_before m n f g s t a b lt = let (u, at) = b.going m lt in over_is_not_at f s u (sym a.over ∙ at)

  pub same_step : (m n : ℕ) (f g : Option RunFault) (s t : State) → Ends p c m f s → Ends p c n g t → m ≡ n
  same_step m n f g s t a b =
      elim (cases_lt m n) [
        | inl lt ↦ absurd (not_before m n f g s t a b lt)
        | inr le ↦ elim (cases_lt n m) [ inl lt ↦ absurd (not_before n m g f t s b a lt) | inr ge ↦ omega arith ]
      ]

  same_end : (m n : ℕ) (f g : Option RunFault) (s t : State) → m ≡ n → Ends p c m f s → Ends p c n g t → Over f s ≡ Over g t
  same_end m n f g s t e a b = sym a.over ∙ ap (after_steps p c) e ∙ b.over

  pub one_step : (m n : ℕ) (a b : Outcome) → HasOutcome p c m a → HasOutcome p c n b → m ≡ n
  one_step m n a b (f, s, x, xe) (g, t, y, ye) = same_step m n f g s t x y

  pub one_outcome : (m n : ℕ) (a b : Outcome) → HasOutcome p c m a → HasOutcome p c n b → a ≡ b
  one_outcome m n a b (f, s, x, xe) (g, t, y, ye) =
      let over : Over f s ≡ Over g t = same_end m n f g s t (same_step m n f g s t x y) x y in
      let fault : f ≡ g = fault_of f g s t over in
      let state : s ≡ t = state_of f g s t over in
      sym xe ∙ ap (λ (h : Option RunFault). outcome_left h s) fault ∙ ap (outcome_left g) state ∙ ye

  -- it was at a place at each step below n
  abbrev WasAt : ℕ → Type 0
  WasAt n = (k : ℕ) → k < n → (u : State) × (after_steps p c k ≡ At u)

  one_more : (n : ℕ) (u : State) → after_steps p c n ≡ At u → WasAt n → WasAt (suc n)
  one_more n u e before k lt =
      elim (cases_lt k n) [
        | inl less ↦ before k less
        | inr ge ↦ let same : k ≡ n = omega arith in (u, ap (after_steps p c) same ∙ e)
      ]

  at_step : (n : ℕ) (t : State) (r : Run) → after_steps p c n ≡ r → step p c r ≡ At t
      → ((u : State) → after_steps p c n ≡ At u → WasAt n) → WasAt (suc n)
  at_step n t (At u) e last before = one_more n u e (before u e)
  at_step n t (Over f u) e last before = absurd (over_is_not_at f u t last)
  at_step n t Trap e last before = absurd (trap_is_not_at t last)

  -- a run that is at a place was at one at each step before
  at_before : (n : ℕ) (t : State) → after_steps p c n ≡ At t → WasAt n
  at_before zero t e = λ k lt. absurd (omega arith)
  at_before (suc n) t e = at_step n t (after_steps p c n) refl e (at_before n)

  -- the run ends with some step, with this fault and in this state
  abbrev pub EndsSo : Option RunFault → State → Type 0
  EndsSo f s = (m : ℕ) × Ends p c m f s

  last_end : (n : ℕ) (f : Option RunFault) (s : State) (r : Run) → after_steps p c n ≡ r → step p c r ≡ Over f s
      → (after_steps p c n ≡ Over f s → EndsSo f s) → EndsSo f s
  last_end n f s (At u) e last before = (suc n, record { over = ap (step p c) e ∙ last; going = one_more n u e (at_before n u e) })
  last_end n f s (Over g u) e last before = before (e ∙ last)
  last_end n f s Trap e last before = absurd (trap_is_not_over f s last)

  -- a run that is over has ended with some step
  pub first_end : (n : ℕ) (f : Option RunFault) (s : State) → after_steps p c n ≡ Over f s → EndsSo f s
  first_end zero f s e = absurd (start_is_not_over f s start e)
  first_end (suc n) f s e = last_end n f s (after_steps p c n) refl e (first_end n f s)
