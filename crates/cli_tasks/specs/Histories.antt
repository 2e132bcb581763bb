-- Histories of volumes that are judged, begun, and in which findings are accepted.
use Rattle.std.specs.Prelude.{◌≡◌, ℕ, Bool, true, false, List}
use Rattle.sqlite.specs.State.{HasCleanDisk}
use Rattle.sqlite.specs.Store.{Ghosts}
use Rattle.sqlite.specs.Held.{Held, state}
use Rattle.command_lines.specs.declared.archives.histories.Attribution.{Attribution}
use Rattle.record_archive.specs.Archive.{Archive}
use Rattle.record_history.specs.Events.{Event}
use Rattle.record_ledger.specs.Ledgers.{store_of}
use Rattle.record_noted.specs.Histories.{StandsWith}
use Rattle.record_noted.specs.Openings.{Opens, OpensHistory}
use Rattle.record_noted.specs.declared.opening.Opened.{Opened}
use Rattle.record_noted.specs.declared.opening.Opened.TheVariants.{Plain}
use Rattle.record_noted.specs.declared.store.NotedStore.{NotedStore}
use Rattle.record_store.specs.declared.store.Store.{Store}
use Rattle.cli_history.specs.Acceptances.{Accepts}
use Rattle.cli_history.specs.Openings.{OpensFor}
use Rattle.cli_history.specs.Replays.{Tell}
use Rattle.cli_history.specs.Walks.{ForArchive, Looks}
use Rattle.cli_history.specs.declared.author.Author.{Author}
use Rattle.cli_history.specs.declared.opening.Purpose.TheVariants.{Ending}
use Rattle.cli_history.specs.declared.seals.Seals.{Seals}
use Rattle.cli_tasks.specs.Changes.{OpensItsHistory}
use Rattle.cli_tasks.specs.Commands.{IsTold}
use Rattle.cli_tasks.specs.Plans.{HaveOnePlan}
use Rattle.cli_tasks.specs.Works.{EachVolume, InVolume, SomeVolume}

-- ---- in a store

-- EACH LINE OF A HISTORY TELLS AN EVENT, and the store is only looked at
pub record TellsEvents {S : Type 0} (g : Ghosts S) (old new : NotedStore S) : Type 0 where
  pub looks : Looks g old new
  pub told : ForArchive g old new (λ a ls. (events : List Event) × Tell ls events)

module _ {S : Type 0} (g : Ghosts S) where
  -- THE HISTORY OF A STORE IS SOUND: it is opened, and each of its lines tells an event. This is left of the store, which is only looked at
  pub record HasSoundHistory (before : Store S) (after : Held S) : Type 0 where
    pub opened : NotedStore S
    pub opens : OpensHistory g before opened
    pub read : NotedStore S
    pub tells : TellsEvents g opened read
    pub left : after ≡ read.store.conn

  -- a store has no history, and stays as it is
  pub record HasNoHistory (before : Store S) (after : Held S) : Type 0 where
    pub none : Opens g before (Plain before)
    pub left : after ≡ before.conn

  -- a history may be begun in a store that has none; one that it has is sound
  abbrev pub MayHaveBegun : (has_history : Bool) → Store S → Held S → Type 0
  MayHaveBegun true before after = HasSoundHistory before after
  MayHaveBegun false before after = HasNoHistory before after

  -- what is left is a store with a history, which is said to be new
  abbrev pub IsBegun : (is_new : Bool) → Held S → Type 0
  IsBegun is_new after = (is_new ≡ true) × (begun : Store S) × OpensItsHistory g begun after

  -- A HISTORY IS BEGUN in a store that has none: this is left of a store that has one
  pub record BeginsHistory (before : Store S) (after : Held S) : Type 0 where
    pub none : Opens g before (Plain before)
    pub begun : Store S
    pub opens : OpensItsHistory g begun after

  -- the same where that is new; else the store had a history, which is only opened
  abbrev pub BeginsWhereNone : (is_new : Bool) → Store S → Held S → Type 0
  BeginsWhereNone true before after = BeginsHistory before after
  BeginsWhereNone false before after = OpensItsHistory g before after

  -- WHAT WAS FOUND IS ACCEPTED in the history of a store, in the event of a number, by this author
  pub record AcceptsBy (author : Author) (number : ℕ) (before : Store S) (after : Held S) : Type 0 where
    pub noted : NotedStore S
    pub opens : OpensHistory g before noted
    pub store : Store S
    pub accepts : HasCleanDisk (state g store.conn) → (a : Archive) → (ls : List (List ℕ)) → StandsWith g noted a ls
        → Accepts g author store a ls number
    pub left : after ≡ store.conn

  -- nothing that was found is left to accept: what is left of a store can be opened to end the keeping of records
  pub record HasNoneToAccept (author : Author) (after : Held S) : Type 0 where
    pub store : Store S
    pub seals : Seals
    pub opened : Opened S
    pub opens : OpensFor g Ending author store seals opened
    pub left : after ≡ (store_of opened).conn

  -- what was found is accepted where something was; else nothing is left to accept
  abbrev pub AcceptsWhereFound : Author → (is_new : Bool) → Store S → Held S → Type 0
  AcceptsWhereFound author true before after = (number : ℕ) × AcceptsBy author number before after
  AcceptsWhereFound author false before after = HasNoneToAccept author after

-- ---- in an archive of volumes

-- IT IS DONE IN EACH VOLUME where it is to be done, and in one at least if that is said. `Holds` says what is so of a volume where it is
-- done, and where there is nothing to do
pub record DoneInSome (Holds : (is_new : Bool) → (volume : ℕ) → Type 0) (is_any : Bool) (last : ℕ) : Type 0 where
  pub each : EachVolume last (λ v. (is_new : Bool) × Holds is_new v)
  pub some : is_any ≡ true → SomeVolume last (Holds true)

module _ {S : Type 0} (g : Ghosts S) (IsAt : (path : List ℕ) → Store S → Type 0) (folder : List ℕ) where
  -- the history of a volume is sound
  abbrev pub IsSoundIn : (volume : ℕ) → Type 0
  IsSoundIn v = InVolume IsAt folder v (HasSoundHistory g)

  -- a history may be begun in a volume, or has been
  abbrev pub MayBeginIn : (volume : ℕ) → Type 0
  MayBeginIn v = (has_history : Bool) × InVolume IsAt folder v (MayHaveBegun g has_history)

  -- one is begun in a volume that has none
  abbrev pub BeginsIn : (is_new : Bool) → (volume : ℕ) → Type 0
  BeginsIn is_new v = InVolume IsAt folder v (BeginsWhereNone g is_new)

  -- HISTORIES ARE BEGUN in the volumes that have none, of which there is one at least. Those of the others were found sound
  pub record BeginsOver (last : ℕ) : Type 0 where
    pub judged : EachVolume last MayBeginIn
    pub begun : DoneInSome BeginsIn true last

  -- IT IS NOTED WHETHER REASONS ARE REQUIRED, or titles, only where the history of each volume was found sound. What is noted is not said here
  pub record NotesReasonsOver (last : ℕ) : Type 0 where
    pub sound : EachVolume last IsSoundIn

  -- TITLES ARE GIVEN only where each volume has one plan, and the history of each was found sound. Of the titles nothing is said here.
  pub record GivesTitlesOver (last : ℕ) : Type 0 where
    pub planned : HaveOnePlan IsAt folder last
    pub sound : EachVolume last IsSoundIn

  module _ (told : Attribution) where
    -- what was found in a volume is accepted, by an author whom the command line tells
    abbrev pub AcceptsIn : (is_new : Bool) → (volume : ℕ) → Type 0
    AcceptsIn is_new v = InVolume IsAt folder v (λ before after. (author : Author) × IsTold told author
        × AcceptsWhereFound g author is_new before after)

    -- WHAT WAS FOUND IS ACCEPTED in each volume in which something was, of which there is one at least
    abbrev pub AcceptsOver : (last : ℕ) → Type 0
    AcceptsOver last = DoneInSome AcceptsIn true last
