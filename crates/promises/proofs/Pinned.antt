-- The run of what is pinned ends with the outcome of the capture alone, within the budget.
use Rattle.std.proofs.Common.{◌≡◌, ◌≤◌, ℕ}
use Rattle.sieve_meaning.specs.Case.{Facts}
use Rattle.sieve_meaning.specs.declared.outcome.Outcome.{Outcome}
use Rattle.filing_image.specs.Program.{Program}
use Rattle.filing_verify.specs.Well.{IsWell}
use Rattle.filing_table.specs.Ends.{HasOutcome}
use Rattle.desk_commands.specs.Pinning.{IsAlone, case_in, budget_of}
use Rattle.desk_commands.specs.Standing.{Flight, IsPinned}
use Rattle.promises.specs.Records.{EndsWithinBudget}
use Rattle.promises.proofs.CitedLaws.{LengthsAreOne, PinnedRunsAreAlone, RunsEnd}
use Rattle.promises.proofs.Sessions.{pins_budget}

module _ (ends_within : RunsEnd) (one_step : LengthsAreOne) where
  -- a run that ends does so within the budget of a verified program
  steps_within : (p : Program) (c : Facts) (n : ℕ) (o : Outcome) → IsWell p → HasOutcome p c n o → n ≤ p.budget
  steps_within p c n o w h =
      let ends = ends_within p c w in
      let same : n ≡ ends.0 = one_step p c n ends.0 o ends.1 h ends.3 in
      rw same ends.2

  pub budget_holds : (p : Program) (c : Facts) (n : ℕ) (o : Outcome) → IsWell p → HasOutcome p c n o → EndsWithinBudget p c o
  budget_holds p c n o w h = record { steps = n; within = steps_within p c n o w h; outcome = h }

  pub within_budget : (f : Flight) → IsPinned f → (f.run_length ≤ f.pinned.budget) × (f.pinned.budget ≡ budget_of f.at_begin)
  within_budget f h = (steps_within f.pinned (case_in f.at_begin) f.run_length h.length.0 h.well h.length.1, pins_budget f.at_begin f.pinned h.pins)

pub alone : PinnedRunsAreAlone → LengthsAreOne → (f : Flight) (n : ℕ) (o : Outcome) → IsPinned f
    → HasOutcome f.pinned (case_in f.at_begin) n o → IsAlone f.at_begin o × (n ≡ f.run_length)
alone pinned_alone one_step f n o h k = (
  pinned_alone f.at_begin f.pinned n o h.pins k,
  one_step f.pinned (case_in f.at_begin) n f.run_length o h.length.0 k h.length.1,
)
