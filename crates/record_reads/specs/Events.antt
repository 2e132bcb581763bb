-- The events that are read.
use Rattle.std.specs.Prelude.{◌≡◌, ℕ, pos, ◌<◌, ◌^◌, Bool, List, [], ◌∷◌, filter, int_le, Option, Some, None}
use Rattle.sqlite.specs.declared.types.Value.TheVariants.{Int, Text as Words}
use Rattle.sqlite.specs.Order.{Row, column}
use Rattle.record_tables.specs.Events.{Event, new_event}
use Rattle.record_reads.specs.declared.events.EventRow.{EventRow}

abbrev pub event_of : EventRow → Event
event_of r = new_event r.number r.line.items r.mark.items

abbrev pub event_values : Event → Row
event_values e = Int (pos e.number) ∷ Words e.line ∷ Words e.mark ∷ []

-- the columns of the row are the event's
pub record ReadsEvent (row : Row) (e : Event) : Type 0 where
  pub number : column row 0 ≡ Int (pos e.number)
  pub line : column row 1 ≡ Words e.line
  pub mark : column row 2 ≡ Words e.mark

-- the number fits in 32 bits
abbrev pub FitsEvent : Event → Type 0
FitsEvent e = e.number < 2 ^ 32

-- the event's number is not below this one
abbrev pub is_event_from : ℕ → Event → Bool
is_event_from n e = int_le (pos n) (pos e.number)

-- the events from a number on, in the order of their numbers
abbrev pub events_from : ℕ → List Event → List Event
events_from n es = filter (is_event_from n) es

abbrev pub last_of : List Event → Option Event
last_of [] = None
last_of (e ∷ []) = Some e
last_of (e ∷ f ∷ es) = last_of (f ∷ es)
