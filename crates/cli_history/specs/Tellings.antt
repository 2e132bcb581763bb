-- What the rows of a history tell of messages and classes, whether something stands against them or not.
use Rattle.std.specs.Prelude.{◌≡◌, ◌≢◌, ℕ, Bool, true, false, List, [], ◌∷◌, Option, Some, None, Result, Ok, Err}
use Rattle.sqlite.specs.Store.{Ghosts}
use Rattle.record_tables.specs.Events.{Event as Row}
use Rattle.record_tables.specs.declared.event_layout.EventLayout.{EventLayout}
use Rattle.record_tables.specs.declared.event_layout.EventLayout.TheVariants.{Absent, Present, Other}
use Rattle.record_history.specs.Events.{Event, Seal}
use Rattle.record_history.specs.Lines.{line_of}
use Rattle.record_history.specs.Readable.{IsReadable}
use Rattle.record_history.specs.Titles.{Title, last_title, title_given}
use Rattle.record_history.specs.Views.{event_view}
use Rattle.record_history.specs.declared.events.Event.{Event as ReadEvent}
use Rattle.record_noted.specs.Histories.{rows_of}
use Rattle.record_store.specs.declared.store.Store.{Store}
use Rattle.cli_console.specs.Failures.{is_bad_data}
use Rattle.cli_console.specs.declared.failure.Failure.{Failure}
use Rattle.cli_console.specs.declared.failure.Failure.TheVariants.{Closed, NoMemory, Told, Reported}
use Rattle.cli_history.specs.Seals.{known, later, sealed_by}
use Rattle.cli_history.specs.Titles.{Path, title_of}
use Rattle.cli_history.specs.Walks.{KeepsLinesIn}
use Rattle.cli_history.specs.declared.seals.Seals.{Seals}

-- there is a table of events
abbrev pub is_present : EventLayout → Bool
is_present Absent = false
is_present Present = true
is_present Other = false

-- THE ROW TELLS THIS EVENT: its line is that of the event, under the row's number; or it is that of no event
abbrev pub TellsRow : Row → Option Event → Type 0
TellsRow r (Some e) = (r.line ≡ line_of r.number e) × IsReadable e
TellsRow r None = (e : Event) → IsReadable e → r.line ≢ line_of r.number e

-- bad data that is yet to be told, as that the line of a row is none of an event
abbrev pub is_told_as_bad : Failure → Bool
is_told_as_bad Closed = false
is_told_as_bad NoMemory = false
is_told_as_bad (Told s words) = is_bad_data s
is_told_as_bad (Reported s) = false

-- the row tells the event that is read, or none where the failure is bad data
abbrev pub TellsAs : Row → Result ReadEvent Failure → Type 0
TellsAs r (Ok e) = TellsRow r (Some (event_view e))
TellsAs r (Err failure) = is_told_as_bad failure ≡ true → TellsRow r None

-- each row tells the event at its place, or none
abbrev pub TellEach : List Row → List (Option Event) → Type 0
TellEach [] [] = Unit {0}
TellEach (r ∷ rows) (o ∷ told) = TellsRow r o × TellEach rows told
TellEach [] (o ∷ told) = ⊥
TellEach (r ∷ rows) [] = ⊥

-- the seal that a row tells of a message by its event, if it tells one
abbrev pub seal_told : Row → Option Event → (message : ℕ) → Option (Seal × ℕ)
seal_told r None message = None
seal_told r (Some e) message = sealed_by r.number e.deed message

-- THE SEAL OF A MESSAGE as rows tell it by these events: the last one that tells one counts
abbrev pub sealed_among : List Row → List (Option Event) → (message : ℕ) → Option (Seal × ℕ)
sealed_among (r ∷ rows) (o ∷ told) message = later (sealed_among rows told message) (seal_told r o message)
sealed_among rows told message = None

-- the title that an event gives the class of a path, if there is one and it gives one
abbrev pub title_told : List ℕ → Option Event → Option Title
title_told path None = None
title_told path (Some e) = title_given path e.deed

-- THE TITLE OF A CLASS as these events tell it: the last one that gives one counts
abbrev pub titled_among : List ℕ → List (Option Event) → Option Title
titled_among path [] = None
titled_among path (o ∷ told) = last_title (title_told path o) (titled_among path told)

-- THE SEALS AND TITLES are those that the rows tell, and no others
pub record AreTold (s : Seals) (rows : List Row) : Type 0 where
  pub told : List (Option Event)
  pub tell : TellEach rows told
  pub seals : (message : ℕ) → known s message ≡ sealed_among rows told message
  pub titles : (path : Path) → title_of s.titles path ≡ titled_among path.items told

-- THE SEALS AND TITLES are those that the history of a store tells, if it keeps one
abbrev pub AreSealsOf : {S : Type 0} → Ghosts S → Store S → Seals → Type 0
AreSealsOf g store seals = (ls : List (List ℕ)) → KeepsLinesIn g store ls → AreTold seals (rows_of ls)

-- the seals and titles after a row are those from before, and what it tells
pub record TakesRow (r : Row) (old new : Seals) : Type 0 where
  pub told : Option Event
  pub tells : TellsRow r told
  pub seals : (message : ℕ) → known new message ≡ later (seal_told r told message) (known old message)
  pub titles : (path : Path) → title_of new.titles path ≡ last_title (title_of old.titles path) (title_told path.items told)
