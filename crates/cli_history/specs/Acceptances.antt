-- What a person decides of a history itself, as it is noted.
use Rattle.std.specs.Prelude.{◌≡◌, ◌+◌, ◌++◌, ◌∷◌, ℕ, true, false, List, [], length, Result, Ok}
use Rattle.sqlite.specs.Store.{Ghosts}
use Rattle.record_archive.specs.Archive.{Archive}
use Rattle.record_history.specs.Events.{Deed, Event, FindingsAccepted}
use Rattle.record_history.specs.Lines.{line_of}
use Rattle.record_history.specs.Spelled.{IsSpelled}
use Rattle.record_store.specs.Faults.{StoreFault}
use Rattle.record_noted.specs.Additions.{NotesLines}
use Rattle.record_noted.specs.Histories.{StandsWith}
use Rattle.record_noted.specs.declared.store.NotedStore.{NotedStore}
use Rattle.record_store.specs.declared.store.Store.{Store}
use Rattle.cli_history.specs.Authors.{noted_name}
use Rattle.cli_history.specs.Findings.{is_open_at, is_unaccepted}
use Rattle.cli_history.specs.Made.{IsMadeOf}
use Rattle.cli_history.specs.Replays.{Tell}
use Rattle.cli_history.specs.declared.author.Author.{Author}
use Rattle.cli_history.specs.declared.restating.Ready.{Ready}

-- THE LINE TELLS OF THE DEED under a number: by the author, for the author's reason, and with no more notes
pub record IsLineBy (author : Author) (number : ℕ) (deed : Deed) (line : List ℕ) : Type 0 where
  pub event : Event
  pub line_is : line ≡ line_of number event
  pub who : event.who ≡ noted_name author
  pub deed_is : event.deed ≡ deed
  pub notes : event.notes ≡ []
  pub reason : event.reason ≡ author.reason.now
  pub spelled : IsSpelled event

-- one line is noted behind the others, and nothing else is changed
abbrev pub NotesLine : {S : Type 0} → Ghosts S → (old new : NotedStore S) → (line : List ℕ) → Type 0
NotesLine g old new line = let done : Result Unit StoreFault = Ok tt in NotesLines g old new done (line ∷ [])

-- THE DEED IS NOTED as the next event, by the author, and nothing else is changed
pub record NotesNext {S : Type 0} (g : Ghosts S) (author : Author) (deed : Deed) (old new : NotedStore S) (number : ℕ) : Type 0 where
  pub number_is : number ≡ old.next
  pub line : List ℕ
  pub by_author : IsLineBy author number deed line
  pub noted : NotesLine g old new line

-- WHAT WAS FOUND IS ACCEPTED: nothing was restated just now, and something that was found was not accepted
pub record AcceptsNext {S : Type 0} (g : Ghosts S) (author : Author) (old new : Ready S) (number : ℕ) : Type 0 where
  pub was_seen : old.is_restated ≡ false
  pub was_open : is_open_at old.replayed.findings.stage ≡ true
  pub notes : NotesNext g author FindingsAccepted old.noted new.noted number

-- THE HISTORY OF THESE LINES IS ACCEPTED: the archive is what they make, something that they tell was found was not accepted, and
-- behind them one more line, by the author, says that it is; the store has this history then, beside the same archive
pub record Accepts {S : Type 0} (g : Ghosts S) (author : Author) (store : Store S) (a : Archive) (ls : List (List ℕ)) (number : ℕ) : Type 0 where
  pub made : IsMadeOf ls a
  pub events : List Event
  pub tell : Tell ls events
  pub was_open : is_unaccepted events ≡ true
  pub number_is : number ≡ length ls + 1
  pub line : List ℕ
  pub by_author : IsLineBy author number FindingsAccepted line
  pub noted : NotedStore S
  pub store_is : noted.store ≡ store
  pub stands : StandsWith g noted a (ls ++ line ∷ [])
