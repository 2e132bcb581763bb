-- Mail that is captured in rounds, in one volume after another, where that ends well.
use Rattle.std.specs.Prelude.{◌≡◌, ◌<◌, ℕ, zero, suc, List, Option}
use Rattle.sqlite.specs.Store.{Ghosts}
use Rattle.sqlite.specs.Held.{Held}
use Rattle.record_ledger.specs.Ledgers.{keeper_of}
use Rattle.record_store.specs.declared.store.Store.{Store}
use Rattle.cli_history.specs.declared.author.Author.{Author}
use Rattle.cli_changes.specs.IntakeCalls.{TakesRound}
use Rattle.cli_changes.specs.Rounds.{IsBeginning}
use Rattle.cli_changes.specs.declared.intake.Intake.{Intake}
use Rattle.cli_changes.specs.declared.moments.Timing.{Timing}
use Rattle.cli_changes.specs.declared.rounds.Round.{Round}
use Rattle.cli_changes.specs.declared.rounds.Round.TheVariants.{Done, NextVolume}
use Rattle.cli_changes.specs.declared.rounds.Rounds.{Rounds}
use Rattle.cli_changes.specs.declared.space.Place.{Place}
use Rattle.cli_tasks.specs.Days.{volumes_before}
use Rattle.cli_tasks.specs.Deliveries.{CapturesBy, IsTimedBy}
use Rattle.cli_tasks.specs.Places.{IsPlaceIn, path_at}
use Rattle.cli_tasks.specs.Works.{IsDone}

-- more rounds are not begun
abbrev pub most_rounds : ℕ
most_rounds = 18446744073709551615

module _ {J R : Type 0} (Makes : J → R → Round J R → Type 0) where
  -- SO MANY ROUNDS ARE MADE, each with what the one before has left of a job and by what the rounds came to so far; this is left then
  abbrev pub GoesThrough : (count : ℕ) → (job : J) (rounds : R) → (rest : J) (so_far : R) → Type 0
  GoesThrough zero job rounds rest so_far = (rest ≡ job) × (so_far ≡ rounds)
  GoesThrough (suc n) job rounds rest so_far =
      (mid : J) × (between : R) × GoesThrough n job rounds mid between × Makes mid between (NextVolume rest so_far)

  -- ROUNDS ARE MADE of a job, up to one that leaves nothing
  pub record MakesAll (job : J) (rounds : R) : Type 0 where
    pub count : ℕ
    pub rest : J
    pub so_far : R
    pub before : GoesThrough count job rounds rest so_far
    pub last : count < most_rounds → Makes rest so_far Done

-- ---- an intake

-- A ROUND OF AN INTAKE IS MADE in a store by an author, as far as there is space, where the clock is judged so
pub record TakesIn {S T : Type 0} (h : Ghosts T) (IsAt : (path : List ℕ) → Store T → Type 0) (g : Ghosts S) (folder : List ℕ) (last : ℕ)
    (author : Author) (job : Intake) (rounds : Rounds) (place : Place) (before : Store S) (round : Round Intake Rounds) (after : Held S)
    : Type 0 where
  pub timing : Timing
  pub timed : IsTimedBy h IsAt folder last before.next job.timing timing
  pub taken : CapturesBy g author before (λ old new.
      TakesRound (keeper_of g) (record job { timing = timing }) rounds place old new round) after

module _ {S : Type 0} (g : Ghosts S) (IsAt : (path : List ℕ) → Store S → Type 0) (store : List ℕ) (IsMeant : Author → Type 0) where
  -- THE SAME at a path: in the store there, or in a volume of the archive there, by an author who is meant
  pub record IntakesRound (job : Intake) (rounds : Rounds) (round : Round Intake Rounds) : Type 0 where
    pub volume : Option ℕ
    pub author : Author
    pub is_meant : IsMeant author
    pub of_volume : author.volume ≡ volume
    pub place : Place
    pub place_is : IsPlaceIn volume place
    pub taken : IsDone (IsAt (path_at store volume)) (λ before after.
        TakesIn g IsAt g store (volumes_before volume) author job rounds place before round after)

  -- THE NEW MAIL OF A MAILDIR IS TAKEN, in one round after another from the first on, up to one that leaves nothing
  pub record IntakesAll : Type 0 where
    pub job : Intake
    pub none : Rounds
    pub is_none : IsBeginning none
    pub rounds : MakesAll IntakesRound job none
