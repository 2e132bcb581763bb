-- Changes that are noted on an occasion.
use Rattle.std.specs.Prelude.{◌≡◌, ◌+◌, ℕ, List, [], ◌∷◌, ◌++◌, length, min, option_map, Result, Ok, Err}
use Rattle.sqlite.specs.Store.{Ghosts}
use Rattle.sqlite.specs.State.{HasCleanDisk}
use Rattle.sqlite.specs.Held.{state}
use Rattle.record_archive.specs.Archive.{Archive, next_number}
use Rattle.record_archive.specs.Calls.{CarriesOut, Makes}
use Rattle.record_archive.specs.declared.fault.ArchiveRefusal.{ArchiveRefusal}
use Rattle.record_history.specs.Events.{Deed, Captured, Destroyed}
use Rattle.record_history.specs.Laws.{Told}
use Rattle.record_history.specs.Replay.{seal}
use Rattle.record_history.specs.Views.{filing_view}
use Rattle.record_store.specs.Faults.{StoreFault}
use Rattle.class_plan.specs.declared.schedules.Schedule.{Schedule}
use Rattle.record_noted.specs.Histories.{StandsWith}
use Rattle.record_noted.specs.Keepers.{keeper_of}
use Rattle.record_noted.specs.Readings.{IsScheduleOfRecord}
use Rattle.record_noted.specs.declared.store.NotedStore.{NotedStore}
use Rattle.record_ledger.specs.Notes.{TellsOf}
use Rattle.record_noted.specs.declared.opening.Opened.{Opened}
use Rattle.record_noted.specs.declared.opening.Opened.TheVariants.{Noted, Plain}
use Rattle.record_ledger.specs.declared.ledger.Ledger.{Ledger}
use Rattle.record_ledger.specs.declared.occasion.Occasion.{Occasion}

-- The store stands for the archive, beside these lines and one more, which tells of the deed, on this occasion and under the
-- line's number.
pub record IsNoted {S K : Type 0} (g : Ghosts S) (noted : NotedStore S) (occasion : Occasion K) (IsDeed : Deed → Type 0)
    (before : List (List ℕ)) (a : Archive) : Type 0 where
  pub line : List ℕ
  pub deed : Deed
  pub is_deed : IsDeed deed
  pub tells : TellsOf occasion (length before + 1) deed line
  pub stands : StandsWith g noted a (before ++ line ∷ [])

-- THE CHANGE IS NOTED. Where a call succeeds on a store whose lines explain its archive, a line of the deed is put behind
-- these very lines, and the store stands beside them for what the command makes of the archive.
abbrev pub NotesDeed : {S K X : Type 0} → Ghosts S → (old new : NotedStore S) → Occasion K → (Archive → Result Archive ArchiveRefusal) →
    (Archive → Deed → Type 0) → Result X StoreFault → Type 0
NotesDeed g old new occasion command IsDeed (Ok x) = HasCleanDisk (state g new.store.conn) → (a : Archive) → (ls : List (List ℕ)) →
    StandsWith g old a ls → Told a ls → Makes (IsNoted g new occasion (IsDeed a) ls) (command a)
NotesDeed g old new occasion command IsDeed (Err f) = Unit {0}

-- THE COMMAND IS CARRIED OUT, AND NOTED by its deed on the occasion
pub record CarriesOutAndNotes {S K X : Type 0} (g : Ghosts S) (old new : NotedStore S) (occasion : Occasion K)
    (command : Archive → Result Archive ArchiveRefusal) (Answers : Archive → X → Type 0) (IsDeed : Archive → Deed → Type 0)
    (result : Result X StoreFault) : Type 0 where
  pub carries : CarriesOut (keeper_of g) old new command Answers result
  pub notes : NotesDeed g old new occasion command IsDeed result

-- the same of what was opened: a history stays one, and a store without one notes nothing
abbrev pub NotesKept : {S K X : Type 0} → Ghosts S → (old new : Opened S) → Occasion K → (Archive → Result Archive ArchiveRefusal) →
    (Archive → Deed → Type 0) → Result X StoreFault → Type 0
NotesKept g (Noted n) (Noted m) occasion command IsDeed result = NotesDeed g n m occasion command IsDeed result
NotesKept g (Plain s) (Plain t) occasion command IsDeed result = Unit {0}
NotesKept g (Noted n) (Plain t) occasion command IsDeed result = ⊥
NotesKept g (Plain s) (Noted m) occasion command IsDeed result = ⊥

-- THE LEDGER NOTES THE CHANGE, on its occasion, which stays.
pub record NotesChange {S K X : Type 0} (g : Ghosts S) (old new : Ledger S K) (command : Archive → Result Archive ArchiveRefusal)
    (IsDeed : Archive → Deed → Type 0) (result : Result X StoreFault) : Type 0 where
  pub noted : NotesKept g old.kept new.kept old.occasion command IsDeed result
  pub occasion : new.occasion ≡ old.occasion

-- A capture on an occasion. Its first record has the archive's next number, or 4294967295 where that is larger, and nothing can
-- be stored then.
abbrev pub captured : {K : Type 0} → Occasion K → Archive → (body : List ℕ) → (day : ℕ) → (paths : List (List ℕ)) → Deed
captured occasion a body day paths = Captured (min (next_number a) 4294967295) (seal body) day (option_map filing_view occasion.filing) paths

-- a destruction as due by a day, under the schedule of the record's class
abbrev pub IsDestruction : (number day : ℕ) → Archive → Deed → Type 0
IsDestruction number day a deed = (s : Schedule) × IsScheduleOfRecord number a s × (deed ≡ Destroyed number day s)
