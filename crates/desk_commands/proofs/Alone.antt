-- The run of what is pinned ends with the outcome of the capture.
use Rattle.std.proofs.Common.{◌≡◌, ◌<◌, ℕ, zero, suc, List, refl, arith, ◌∙◌, sym, subst, Bool, true, false, Some, None, []}
use Rattle.sieve_meaning.specs.declared.outcome.Outcome.{Outcome}
use Rattle.sieve_meaning.specs.declared.run_fault.RunFault.TheVariants.{TooHeavy}
use Rattle.sieve_meaning.specs.Case.{Facts}
use Rattle.sieve_meaning.specs.Program.{Commands}
use Rattle.sieve_meaning.specs.Meaning.{Library}
use Rattle.sieve_meaning.specs.TooHeavy.{is_too_heavy}
use Rattle.sieve_meaning.specs.Outcome.{outcome, outcome_at}
use Rattle.sieve_meaning.proofs.OutcomeLaws.{heavy_outcome, light_outcome}
use Rattle.filing_image.specs.Program.{Program}
use Rattle.filing_table.specs.Machine.{State, At, start, after_steps}
use Rattle.filing_table.specs.Ends.{HasOutcome}
use Rattle.filing_table.proofs.Once.{one_outcome}
use Rattle.desk_commands.specs.Pinning.{BeginState, IsAlone, GivesOutcome, Pins, PinsChoice, PinsScript, Choice}
use Rattle.desk_commands.specs.Pinning.{nothing, script, image_of, case_in, one_stop, one_fault, kept_alone}

-- a run of one step
first_only : (p : Program) (c : Facts) (k : ℕ) → k < 1 → (t : State) × (after_steps p c k ≡ At t)
first_only p c zero h = (start, refl)
first_only p c (suc k) h = absurd (omega (arith, h))

stop_ends : (c : Facts) → HasOutcome one_stop c 1 kept_alone
stop_ends c = (None, start, record { over = refl; going = first_only one_stop c }, refl)

pub fault_ends : (c : Facts) → HasOutcome one_fault c 1 (outcome_at (Some TooHeavy) [] false false)
fault_ends c = (Some TooHeavy, start, record { over = refl; going = first_only one_fault c }, refl)

script_gives : (heavy : Bool) (facts : Facts) (lib : Library) (name : List ℕ) (c : Commands) (p : Program) (n : ℕ)
    (o : Outcome) → is_too_heavy lib (Some name) c ≡ heavy → PinsScript heavy lib name c p → HasOutcome p facts n o
    → o ≡ outcome facts lib (Some name) c
script_gives true facts lib name c p n o e h k =
    let P : Program → Type 0 = λ q. HasOutcome q facts n o in
    one_outcome one_fault facts n 1 o _ (subst P h k) (fault_ends facts) ∙ sym (heavy_outcome facts lib (Some name) c e)
script_gives false facts lib name c p n o e h k =
    let ends = h.outcomes facts in
    one_outcome p facts n ends.0 o _ k ends.1 ∙ sym (light_outcome facts lib (Some name) c e)

chosen_gives : (x : Choice) (facts : Facts) (lib : Library) (p : Program) (n : ℕ) (o : Outcome) → PinsChoice x lib p
    → HasOutcome p facts n o → GivesOutcome x lib facts o
chosen_gives nothing facts lib p n o h k =
    let P : Program → Type 0 = λ q. HasOutcome q facts n o in
    one_outcome one_stop facts n 1 o _ (subst P h k) (stop_ends facts)
chosen_gives (script name c) facts lib p n o h k = script_gives _ facts lib name c p n o refl h k
chosen_gives (image_of q) facts lib p n o h k =
    let P : Program → Type 0 = λ q. HasOutcome q facts n o in
    (n, subst P h k)

pub pinned_alone : (s : BeginState) (p : Program) (n : ℕ) (o : Outcome) → Pins s p → HasOutcome p (case_in s) n o → IsAlone s o
pinned_alone s p n o h k = chosen_gives s.program (case_in s) s.library p n o h k
