-- Rounds of an import.
use Rattle.std.specs.Prelude.{IfOk}
use Rattle.std.specs.declared.prelude.LibcRuntime.{LibcRuntime}
use Rattle.std.proofs.Common.{◌≡◌, List, ℕ, Option, Result, Ok, Err, refl, subst}
use Rattle.sqlite.specs.Store.{Ghosts}
use Rattle.sqlite.specs.Held.{Held}
use Rattle.record_history.specs.declared.events.Filing.{Filing}
use Rattle.record_ledger.specs.Ledgers.{keeper_of, store_of}
use Rattle.record_ledger.specs.declared.ledger.Ledger.{Ledger}
use Rattle.record_store.specs.declared.store.Store.{Store}
use Rattle.cli_console.specs.declared.failure.Failure.{Failure}
use Rattle.cli_history.specs.Authors.{IsOccasionOf}
use Rattle.cli_history.specs.Openings.{OpensFor}
use Rattle.cli_history.specs.declared.author.Author.{Author}
use Rattle.cli_history.specs.declared.opening.Purpose.TheVariants.{Capturing}
use Rattle.cli_history.specs.declared.seals.Seals.{Seals}
use Rattle.cli_changes.specs.Imports.{ImportsNoting}
use Rattle.cli_changes.specs.declared.import.MailImport.{MailImport}
use Rattle.cli_changes.specs.declared.import_rounds.ImportRounds.{ImportRounds}
use Rattle.cli_changes.specs.declared.rounds.Round.{Round}
use Rattle.cli_changes.specs.declared.space.Place.{Place}
use Rattle.cli_tasks.specs.Imports.{ImportsIn, ImportsRound, KnowsBefore, Prepares}
use Rattle.cli_tasks.specs.Places.{IsForImport, path_at}
use Rattle.cli_tasks.specs.Works.{IsDone}
use Rattle.cli_tasks.specs.declared.rolling.Capturing as rolling

-- a round was made in a ledger that was opened for it
pub imported_by : {S : Type 0} (g : Ghosts S) (author : Author) (job : MailImport) (rounds known : ImportRounds) (place : Place)
    (officer : List ℕ) (before opened : Store S) (seals : Seals) (filing : Option Filing) (old : Ledger S LibcRuntime)
    (came : Ledger S LibcRuntime × Result (Round MailImport ImportRounds) Failure) (after : Held S)
    → Prepares g officer place.volume before opened rounds known → OpensFor g Capturing author opened seals old.kept
    → IsOccasionOf author filing old.occasion → after ≡ (store_of came.0.kept).conn
    → ImportsNoting (keeper_of g) job known place old came → IfOk came.1 (λ round. ImportsIn g author job rounds place before round after)
imported_by g author job rounds known place officer before opened seals filing old came after prepares opens occasion left done =
    go came.1 refl
  where
    go : (r : Result (Round MailImport ImportRounds) Failure) → came.1 ≡ r
        → IfOk r (λ round. ImportsIn g author job rounds place before round after)
    go (Ok round) is = record {
      officer = officer;
      opened = opened;
      known = known;
      prepares = prepares;
      came = came;
      ended = is;
      imports = record {
        seals = seals;
        filing = filing;
        old = old;
        new = came.0;
        opens = opens;
        occasion = occasion;
        made = (done, refl);
        left = left;
      };
    }
    go (Err failure) is = tt

-- a round was made at the path that is meant
pub imported_at : {S : Type 0} (g : Ghosts S) (IsAt : (path : List ℕ) → Store S → Type 0) (store path : List ℕ) (IsMeant : Author → Type 0)
    (capturing : rolling.Capturing) (place : Place) (author : Author) (job : MailImport) (from : ℕ) (rounds known : ImportRounds)
    (round : Round MailImport ImportRounds) → IsForImport store capturing place → IsMeant author → author.volume ≡ place.volume
    → KnowsBefore g IsAt store from place.volume rounds known → path ≡ path_at store capturing.volume
    → IsDone (IsAt path) (λ before after. ImportsIn g author job known place before round after)
    → ImportsRound g IsAt store IsMeant job rounds round
imported_at g IsAt store path IsMeant capturing place author job from rounds known round placed meant of_volume knows there done = record {
  capturing = capturing;
  place = place;
  placed = placed;
  author = author;
  is_meant = meant;
  of_volume = of_volume;
  from = from;
  known = known;
  knows = knows;
  imports = subst (λ (p : List ℕ). IsDone (IsAt p) (λ x y. ImportsIn g author job known place x round y)) there done;
}
