-- Rounds that are made one after another.
use Rattle.std.specs.Prelude.{IfOk}
use Rattle.std.specs.declared.prelude.LibcRuntime.{LibcRuntime}
use Rattle.std.proofs.Common.{◌≡◌, ◌∙◌, List, ℕ, None, Some, Option, Result, Ok, Err, ap, subst}
use Rattle.sqlite.specs.Store.{Ghosts}
use Rattle.sqlite.specs.Held.{Held}
use Rattle.record_history.specs.declared.events.Filing.{Filing}
use Rattle.record_ledger.specs.Ledgers.{keeper_of, store_of}
use Rattle.record_ledger.specs.declared.ledger.Ledger.{Ledger}
use Rattle.record_store.specs.declared.store.Store.{Store}
use Rattle.cli_console.specs.declared.failure.Failure.{Failure}
use Rattle.cli_history.specs.Authors.{IsOccasionOf}
use Rattle.cli_history.specs.Openings.{OpensFor}
use Rattle.cli_history.specs.declared.author.Author.{Author}
use Rattle.cli_history.specs.declared.opening.Purpose.TheVariants.{Capturing}
use Rattle.cli_history.specs.declared.seals.Seals.{Seals}
use Rattle.cli_changes.specs.IntakeCalls.{TakesRound}
use Rattle.cli_changes.specs.declared.intake.Intake.{Intake}
use Rattle.cli_changes.specs.declared.moments.Timing.{Timing}
use Rattle.cli_changes.specs.declared.rounds.Round.{Round}
use Rattle.cli_changes.specs.declared.rounds.Rounds.{Rounds}
use Rattle.cli_changes.specs.declared.space.Place.{Place}
use Rattle.cli_tasks.specs.Days.{volumes_before}
use Rattle.cli_tasks.specs.Deliveries.{IsTimedBy}
use Rattle.cli_tasks.specs.Places.{IsPlaceIn, path_at}
use Rattle.cli_tasks.specs.Rounds.{IntakesRound, TakesIn}
use Rattle.cli_tasks.specs.Works.{IsDone}

-- a place in a volume has the number of that volume
pub volume_of_place : (volume : Option ℕ) (place : Place) → IsPlaceIn volume place → place.volume ≡ volume
volume_of_place None place is = ap (λ (p : Place). p.volume) is
volume_of_place (Some v) place is = ap (λ (p : Place). p.volume) is.2

-- a round was made in a ledger that was opened for it
pub taken_by : {S T : Type 0} (h : Ghosts T) (IsAt : (path : List ℕ) → Store T → Type 0) (g : Ghosts S) (folder : List ℕ) (last : ℕ)
    (author : Author) (job timed_job : Intake) (rounds : Rounds) (place : Place) (known timing : Timing) (before : Store S) (seals : Seals)
    (filing : Option Filing) (old new : Ledger S LibcRuntime) (r : Result (Round Intake Rounds) Failure) (after : Held S)
    → known ≡ job.timing → timed_job ≡ record job { timing = timing } → IsTimedBy h IsAt folder last before.next known timing
    → OpensFor g Capturing author before seals old.kept → IsOccasionOf author filing old.occasion → after ≡ (store_of new.kept).conn
    → IfOk r (TakesRound (keeper_of g) timed_job rounds place old new)
    → IfOk r (λ round. TakesIn h IsAt g folder last author job rounds place before round after)
taken_by h IsAt g folder last author job timed_job rounds place known timing before seals filing old new (Ok round) after is_known is_timed timed
    opens occasion left done = record {
      timing = timing;
      timed = subst (λ (t : Timing). IsTimedBy h IsAt folder last before.next t timing) is_known timed;
      taken = record {
        seals = seals;
        filing = filing;
        old = old;
        new = new;
        opens = opens;
        occasion = occasion;
        made = subst (λ (j : Intake). TakesRound (keeper_of g) j rounds place old new round) is_timed done;
        left = left;
      };
    }
taken_by h IsAt g folder last author job timed_job rounds place known timing before seals filing old new (Err failure) after is_known is_timed timed
    opens occasion left done = tt

-- a round was made at the path that is meant, timed by the volumes that are meant
pub round_at : {X S : Type 0} (g : Ghosts S) (IsAt : X → (path : List ℕ) → Store S → Type 0) (IsMeant : Author → Type 0) (kept earlier : X)
    (path store folder : List ℕ) (volume : Option ℕ) (last : ℕ) (author : Author) (job : Intake) (rounds : Rounds) (place : Place)
    (r : Result (Round Intake Rounds) Failure) → IsMeant author → author.volume ≡ place.volume → IsPlaceIn volume place
    → earlier ≡ kept → folder ≡ store → last ≡ volumes_before place.volume → path ≡ path_at store volume
    → IfOk r (λ round. IsDone (IsAt kept path) (λ before after. TakesIn g (IsAt earlier) g folder last author job rounds place before round after))
    → IfOk r (IntakesRound g (IsAt kept) store IsMeant job rounds)
round_at g IsAt IsMeant kept earlier path store folder volume last author job rounds place (Ok round) by of_place placed at is before to done =
    let same : place.volume ≡ volume = volume_of_place volume place placed in
    record {
      volume = volume;
      author = author;
      is_meant = by;
      of_volume = of_place ∙ same;
      place = place;
      place_is = placed;
      taken = subst (λ (p : List ℕ). IsDone (IsAt kept p) (λ x y.
          TakesIn g (IsAt kept) g store (volumes_before volume) author job rounds place x round y)) to
          (subst (λ (n : ℕ). IsDone (IsAt kept path) (λ x y. TakesIn g (IsAt kept) g store n author job rounds place x round y))
          (before ∙ ap volumes_before same)
          (subst (λ (f : List ℕ). IsDone (IsAt kept path) (λ x y. TakesIn g (IsAt kept) g f last author job rounds place x round y)) is
          (subst (λ a. IsDone (IsAt kept path) (λ x y. TakesIn g (IsAt a) g folder last author job rounds place x round y)) at done)));
    }
round_at g IsAt IsMeant kept earlier path store folder volume last author job rounds place (Err failure) by of_place placed at is before to done =
    tt
