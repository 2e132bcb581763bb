-- A number of steps of a machine.
use Rattle.std.specs.Prelude.{◌≡◌, ℕ, ◌+◌, ◌<◌, ◌≤◌}
use Rattle.filing_image.specs.Program.{Program}
use Rattle.filing_machine.specs.declared.state.Progress.TheVariants.{Going}
use Rattle.filing_machine.specs.Runs.{Snapshot, IsModestAt}

-- that many steps were made, or fewer where the run has ended
pub record HasMade (old : Snapshot) (count : ℕ) (new : Snapshot) : Type 0 where
  pub most : new.steps ≤ old.steps + count
  pub all : new.progress ≡ Going → new.steps ≡ old.steps + count

-- fewer steps were made, and the machine is about to run an instruction that takes memory
pub record IsStopped (p : Program) (old : Snapshot) (count : ℕ) (new : Snapshot) : Type 0 where
  pub made : ℕ
  pub within : made < count
  pub steps : new.steps ≡ old.steps + made
  pub running : new.progress ≡ Going
  pub takes_memory : IsModestAt p new.at.place → ⊥
