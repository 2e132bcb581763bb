-- Old mail that is imported, in one round after another, where that ends well.
use Rattle.std.specs.Prelude.{◌≡◌, ◌-◌, ℕ, List, Option, Some, None, Result, Ok}
use Rattle.std.specs.declared.prelude.LibcRuntime.{LibcRuntime}
use Rattle.sqlite.specs.Store.{Ghosts}
use Rattle.sqlite.specs.Held.{Held}
use Rattle.record_known.specs.declared.known.Known.{Known}
use Rattle.record_ledger.specs.Ledgers.{keeper_of}
use Rattle.record_ledger.specs.declared.ledger.Ledger.{Ledger}
use Rattle.record_store.specs.declared.store.Store.{Store}
use Rattle.cli_console.specs.declared.failure.Failure.{Failure}
use Rattle.cli_history.specs.Walks.{Glances}
use Rattle.cli_history.specs.declared.author.Author.{Author}
use Rattle.cli_changes.specs.ImportRounds.{IsBeginning, KnowsAlso}
use Rattle.cli_changes.specs.Imports.{ImportsNoting}
use Rattle.cli_changes.specs.declared.import.MailImport.{MailImport}
use Rattle.cli_changes.specs.declared.import_rounds.ImportRounds.{ImportRounds}
use Rattle.cli_changes.specs.declared.rounds.Round.{Round}
use Rattle.cli_changes.specs.declared.space.Place.{Place}
use Rattle.cli_tasks.specs.Captured.{KnowsVolumes, ShowsCaptured}
use Rattle.cli_tasks.specs.Deliveries.{CapturesBy}
use Rattle.cli_tasks.specs.Places.{IsForImport, path_at}
use Rattle.cli_tasks.specs.Rounds.{MakesAll}
use Rattle.cli_tasks.specs.Works.{IsDone}
use Rattle.cli_tasks.specs.declared.rolling.Capturing.{Capturing}

module _ {S : Type 0} (g : Ghosts S) where
  -- IT IS NOTED which messages a store has already for an officer, in this volume if it is one; the store is only looked at
  pub record Prepares (officer : List ℕ) (volume : Option ℕ) (before opened : Store S) (rounds known : ImportRounds) : Type 0 where
    pub glances : Glances g before opened
    pub has : Known
    pub shown : ShowsCaptured g officer before opened.conn has
    pub knows : KnowsAlso volume has rounds known

  -- A ROUND OF AN IMPORT IS MADE in a store by an author, as far as there is space there, once it is noted what the store has already
  pub record ImportsIn (author : Author) (job : MailImport) (rounds : ImportRounds) (place : Place) (before : Store S)
      (round : Round MailImport ImportRounds) (after : Held S) : Type 0 where
    pub officer : List ℕ
    pub opened : Store S
    pub known : ImportRounds
    pub prepares : Prepares officer place.volume before opened rounds known
    pub came : Ledger S LibcRuntime × Result (Round MailImport ImportRounds) Failure
    pub ended : came.1 ≡ Ok round
    pub imports : CapturesBy g author opened (λ old new. ImportsNoting (keeper_of g) job known place old came × (new ≡ came.0)) after

module _ {S : Type 0} (g : Ghosts S) (IsAt : (path : List ℕ) → Store S → Type 0) (store : List ℕ) where
  -- IT IS NOTED WHAT THE VOLUMES BEFORE ONE HAVE, from one on, for an officer; nothing before a store that is no volume
  abbrev pub KnowsBefore : (from : ℕ) → (volume : Option ℕ) → (rounds known : ImportRounds) → Type 0
  KnowsBefore from None rounds known = known ≡ rounds
  KnowsBefore from (Some v) rounds known = (officer : List ℕ) × KnowsVolumes g IsAt store officer from (v - from) rounds known

  module _ (IsMeant : Author → Type 0) where
    -- A ROUND IS MADE at a path: in the store there, or in a volume of the archive there, by an author who is meant, once it is noted what
    -- volumes before that one have
    pub record ImportsRound (job : MailImport) (rounds : ImportRounds) (round : Round MailImport ImportRounds) : Type 0 where
      pub capturing : Capturing
      pub place : Place
      pub placed : IsForImport store capturing place
      pub author : Author
      pub is_meant : IsMeant author
      pub of_volume : author.volume ≡ place.volume
      pub from : ℕ
      pub known : ImportRounds
      pub knows : KnowsBefore from place.volume rounds known
      pub imports : IsDone (IsAt (path_at store capturing.volume)) (λ before after. ImportsIn g author job known place before round after)

    -- OLD MAIL IS IMPORTED, in one round after another from the first on, up to one that leaves nothing
    pub record ImportsAll : Type 0 where
      pub job : MailImport
      pub none : ImportRounds
      pub is_none : IsBeginning none
      pub rounds : MakesAll ImportsRound job none
