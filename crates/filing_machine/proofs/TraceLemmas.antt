-- One more step that is recorded.
use Rattle.std.proofs.Common.{◌≡◌, ℕ, zero, suc, ◌+◌, true, List, [], ◌∷◌, ◌++◌, length, Some, IfSome, is_some}
use Rattle.std.proofs.Common.{slice_get, refl, sym, ap, subst, ◌∙◌, arith}
use Rattle.std.specs.Option.{unwrap_or}
use Rattle.filing_image.specs.Program.{Program}
use Rattle.sieve_meaning.specs.Case.{Facts}
use Rattle.filing_table.specs.Machine.{State, after_steps}
use Rattle.filing_machine.specs.Runs.{Snapshot, IsOnRun}
use Rattle.filing_machine.specs.declared.state.Progress.{Progress}
use Rattle.filing_machine.specs.declared.state.Progress.TheVariants.{Going, Ended}
use Rattle.filing_machine.specs.StateViews.{state, run_at}
use Rattle.filing_machine.specs.Tops.{top_of_stack}
use Rattle.filing_machine.specs.declared.trace.Step.{Step}
use Rattle.filing_machine.specs.StepRecords.{state_of, finds, is_found_by, IsStepRecord}

standing_at : (progress : Progress) (s : State) → state_of (run_at progress s) ≡ s
standing_at Going s = refl
standing_at (Ended fault) s = refl

-- where a machine is in its run
here : (p : Program) (c : Facts) (m : Snapshot) → IsOnRun p c m → state_of (after_steps p c m.steps) ≡ state c m.at
here p c m stands = ap state_of (sym stands.on_run) ∙ standing_at m.progress (state c m.at)

-- what is read from the machine before a step and after it
pub step_is_told : (p : Program) (c : Facts) (m n : Snapshot) (x : Step) → IsOnRun p c m → IsOnRun p c n
    → n.steps ≡ m.steps + 1 → x.place ≡ m.at.place → x.top ≡ top_of_stack (state c n.at).stack
    → is_some x.matched ≡ finds p (state c m.at) → IfSome x.matched (λ f. is_found_by p c m.at.place f ≡ true)
    → IsStepRecord p c m.steps x
step_is_told p c m n x before after one place top found matched = record {
  place = place ∙ ap (λ (s : State). s.place) (sym (here p c m before));
  top = top ∙ ap (λ (s : State). top_of_stack s.stack) (sym (here p c n after)) ∙ ap (λ k. top_of_stack (state_of (after_steps p c k)).stack) one;
  found = found ∙ ap (finds p) (sym (here p c m before));
  matched = let P : ℕ → Type 0 = λ at. IfSome x.matched (λ f. is_found_by p c at f ≡ true) in subst P (sym place) matched;
}

-- what holds of each element by its place, and of one added at the end, holds of all
pub one_more : (P : ℕ → Step → Type 0) (xs : List Step) (x : Step)
    → ((k : ℕ) (s : Step) → slice_get xs k ≡ Some s → P k s) → P (length xs) x → (k : ℕ) (s : Step)
    → slice_get (xs ++ x ∷ []) k ≡ Some s → P k s
one_more P [] x old new zero s e = let is : x ≡ s = ap (λ o. unwrap_or o x) e in subst (P 0) is new
one_more P [] x old new (suc k) s e = absurd (cc e)
one_more P (y ∷ ys) x old new zero s e = old zero s e
one_more P (y ∷ ys) x old new (suc k) s e =
    let there : length (y ∷ ys) ≡ suc (length ys) = omega arith in
    let Q : ℕ → Type 0 = λ n. P n x in
    one_more (λ n. P (suc n)) ys x (λ n t. old (suc n) t) (subst Q there new) k s e

-- of an empty list everything holds
pub none_told : (P : ℕ → Step → Type 0) (xs : List Step) → xs ≡ [] → (k : ℕ) (s : Step) → slice_get xs k ≡ Some s → P k s
none_told P [] none zero s e = absurd (cc e)
none_told P [] none (suc k) s e = absurd (cc e)
none_told P (x ∷ xs) none k s e = absurd (cc none)
