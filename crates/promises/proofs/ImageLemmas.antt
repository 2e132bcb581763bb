-- Images that are accepted run to their end, and what scripts are compiled to ends with what they mean.
use Rattle.std.proofs.Common.{◌≡◌, ◌≢◌, ℕ, List, [], refl, arith, sym, subst, inl, inr, Bool, true, false, Some}
use Rattle.std.proofs.lemmas.Bool.{cases_lt}
use Rattle.sieve_meaning.specs.Case.{Facts}
use Rattle.sieve_meaning.specs.Meaning.{Library, meaning}
use Rattle.sieve_meaning.specs.declared.outcome.Outcome.{Outcome}
use Rattle.sieve_meaning.specs.declared.run_fault.RunFault.TheVariants as run_faults
use Rattle.sieve_meaning.specs.Outcome.{outcome, outcome_at, outcome_of}
use Rattle.sieve_meaning.specs.Program.{Commands}
use Rattle.filing_image.specs.Program.{Program}
use Rattle.filing_table.specs.Ends.{HasOutcome}
use Rattle.filing_table.specs.Machine.{Trap, after_steps}
use Rattle.filing_verify.specs.Well.{IsWell}
use Rattle.desk_commands.specs.Parts.{IsGoodImage, RefusesImage}
use Rattle.sieve_meaning.specs.TooHeavy.{is_too_heavy}
use Rattle.desk_commands.specs.Pinning.{PinsScript, one_fault}
use Rattle.promises.specs.Images.{Compiles}
use Rattle.promises.specs.Records.{EndsWithinBudget, IsFaultAlone}
use Rattle.promises.proofs.CitedLaws.{LengthsAreOne, OutcomesAreOne, ProgramsAreOne, RunsEnd}
use Rattle.promises.proofs.Pinned.{budget_holds}
use Rattle.promises.proofs.RecordLemmas.{meaning_fault_alone}
use Rattle.promises.proofs.Verdicts.{image_or}

pub never_traps : ((p : Program) (c : Facts) (n : ℕ) → IsWell p → after_steps p c n ≢ Trap)
    → (octets : List ℕ) (p : Program) (c : Facts) (n : ℕ) → IsGoodImage octets p → after_steps p c n ≢ Trap
never_traps well_made octets p c n h = well_made p c n h.well

pub ends : RunsEnd → (octets : List ℕ) (p : Program) (c : Facts) → IsGoodImage octets p → (o : Outcome) × EndsWithinBudget p c o
ends ends_within octets p c h = let end = ends_within p c h.well in (end.1, record { steps = end.0; within = end.2; outcome = end.3 })

pub one_end : OutcomesAreOne → (p : Program) (c : Facts) (o x : Outcome) → EndsWithinBudget p c o → EndsWithinBudget p c x → o ≡ x
one_end one_outcome p c o x h k = one_outcome p c h.steps k.steps o x h.outcome k.outcome

pub refused_for_memory : ProgramsAreOne → (octets : List ℕ) (p : Program) (n : ℕ) → IsGoodImage octets p → RefusesImage octets n → n ≡ 99
refused_for_memory one_start octets p n h k =
    elim (cases_lt n 99) [
      | inl less ↦ absurd (image_or one_start octets p n h k (λ e. omega (arith, less, e)))
      | inr most ↦
          elim (cases_lt 99 n) [
            | inl more ↦ absurd (image_or one_start octets p n h k (λ e. omega (arith, more, e)))
            | inr least ↦ omega (arith, most, least)
          ]
    ]

-- a script that is too heavy has that fault, and any other the outcome of what it means
heavy_outcome : (c : Facts) (lib : Library) (name : List ℕ) (s : Commands) → is_too_heavy lib (Some name) s ≡ true
    → outcome c lib (Some name) s ≡ outcome_at (Some run_faults.TooHeavy) [] false false
unfolding outcome
heavy_outcome c lib name s heavy = rw heavy refl

light_outcome : (c : Facts) (lib : Library) (name : List ℕ) (s : Commands) → is_too_heavy lib (Some name) s ≡ false
    → outcome c lib (Some name) s ≡ outcome_of (meaning c lib (Some name) s)
unfolding outcome
light_outcome c lib name s light = rw light refl

-- what is pinned for a script that is too heavy: what `pinned_runs_end_alone` says of it
abbrev pub FaultEnds : Type 0
FaultEnds = (c : Facts) → HasOutcome one_fault c 1 (outcome_at (Some run_faults.TooHeavy) [] false false)

module _ (ends_within : RunsEnd) (one_step : LengthsAreOne) (fault_ends : FaultEnds) where
  script_ends : (heavy : Bool) (lib : Library) (name : List ℕ) (s : Commands) (p : Program) (c : Facts)
      → is_too_heavy lib (Some name) s ≡ heavy → PinsScript heavy lib name s p
      → EndsWithinBudget p c (outcome c lib (Some name) s)
  script_ends true lib name s p c e h =
      let heavy : Outcome = outcome_at (Some run_faults.TooHeavy) [] false false in
      let one : EndsWithinBudget one_fault c heavy = record { steps = 1; within = omega arith; outcome = fault_ends c } in
      let here : EndsWithinBudget p c heavy = subst (λ (q : Program). EndsWithinBudget q c heavy) (sym h) one in
      subst (λ (o : Outcome). EndsWithinBudget p c o) (sym (heavy_outcome c lib name s e)) here
  script_ends false lib name s p c e h =
      let end = h.outcomes c in
      subst (λ (o : Outcome). EndsWithinBudget p c o) (sym (light_outcome c lib name s e))
      (budget_holds ends_within one_step p c end.0 _ h.well end.1)

  pub means : (lib : Library) (name : List ℕ) (script : Commands) (p : Program) (c : Facts) → Compiles lib name script p
      → EndsWithinBudget p c (outcome c lib (Some name) script)
  means lib name script p c h = script_ends _ lib name script p c refl h

pub means_fault_alone : (lib : Library) (name : List ℕ) (script : Commands) (c : Facts) → IsFaultAlone (outcome c lib (Some name) script)
means_fault_alone lib name script c = meaning_fault_alone c lib (Some name) script
