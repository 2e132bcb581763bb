-- Events that are added to a table of events, one after another.
use Rattle.std.specs.Prelude.{◌<◌, ◌++◌, ℕ, List, [], take, length, get_or}
use Rattle.sqlite.specs.Effect.{Database}
use Rattle.record_tables.specs.Events.{Event, IsPastEvents, StoresEvents}

-- each event comes after these, and after those before it
abbrev pub AreAfter : (es all : List Event) → Type 0
AreAfter es all = (k : ℕ) (d : Event) → k < length all → IsPastEvents (get_or all k d).number (es ++ take k all)

-- each event comes after those before it
abbrev pub AreInOrder : List Event → Type 0
AreInOrder all = AreAfter [] all

-- the database has a table of events, and each of these comes after them
abbrev pub Awaits : List Event → Database → Type 0
Awaits all db = (es : List Event) × StoresEvents db es × AreAfter es all

-- they come after the events that were there
abbrev pub NotesEvents : List Event → (old new : Database) → Type 0
NotesEvents all old new = (es : List Event) → StoresEvents old es → AreAfter es all → StoresEvents new (es ++ all)
