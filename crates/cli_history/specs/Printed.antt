-- What `history` prints of the events of one store after another: those of each that are asked for, between one head and one end.
use Rattle.std.specs.Prelude.{◌≡◌, ℕ, ◌==◌, ◌&&◌, not, Bool, true, false, if◌then◌else◌, List, [], ◌∷◌, ◌++◌, codes, Option, Some, None}
use Rattle.choice_words.specs.declared.numbers.TypedNumbers.{TypedNumbers}
use Rattle.command_lines.specs.declared.archives.histories.HistoryAsked.{HistoryAsked}
use Rattle.record_tables.specs.Events.{Event as Row}
use Rattle.record_history.specs.Events.{Deed, Event, Captured, Held, Released, Refiled, Destroyed, FoundMessage, FoundRecord, FoundHold}
use Rattle.cli_texts.specs.EventValues.{event_value}
use Rattle.cli_texts.specs.HistoryLines.{history_text, line_in}
use Rattle.cli_texts.specs.Json.{json_text}
use Rattle.cli_texts.specs.Moments.{IsMomentText}
use Rattle.cli_texts.specs.declared.events.ListedEvent.{ListedEvent}
use Rattle.cli_texts.specs.declared.history_lines.NumberPlaces.{NumberPlaces}
use Rattle.cli_console.specs.Sequences.{AreTexts, between, more_for, only}
use Rattle.cli_console.specs.Sinks.{Writes}
use Rattle.cli_history.specs.Chosen.{asks_for, asks_for_all, is_there_after}
use Rattle.cli_history.specs.Lawful.{Watches}
use Rattle.cli_history.specs.Missing.{are_met, unmet}
use Rattle.cli_history.specs.Tellings.{TellEach}
use Rattle.cli_history.specs.declared.printing.HistoryText.{HistoryText}
use Rattle.cli_history.specs.declared.printing.PrintedHistory.{PrintedHistory}

-- ---- the text of a row

abbrev pub no_places : NumberPlaces
no_places = record { of_record = None; of_message = None }

abbrev pub at_word : ℕ → NumberPlaces
at_word n = record { of_record = Some n; of_message = None }

-- WHICH WORDS ARE NUMBERS of records in the line of an event: behind its number, its moment and who did it stands the deed
abbrev pub number_places : Deed → NumberPlaces
number_places (Captured first seal day filing paths) = at_word 4
number_places (Held name n) = at_word 5
number_places (Released name n) = at_word 5
number_places (Refiled n path) = at_word 4
number_places (Destroyed n day schedule) = at_word 4
number_places (FoundMessage n seal) = record { of_record = None; of_message = Some 5 }
number_places (FoundRecord r) = record { of_record = Some 5; of_message = Some 8 }
number_places (FoundHold name n) = at_word 6
number_places deed = no_places

-- in a line that is none of an event, it is not known which words are
abbrev pub places_told : Option Event → NumberPlaces
places_told None = no_places
places_told (Some e) = number_places e.deed

-- a row, and the event that it tells, if it tells one
abbrev pub Seen : Type 0
Seen = Row × Option Event

-- an event as it is listed is that of a row in a volume; of the word and the fields of its deed nothing is claimed here
pub record IsListed (volume : Option ℕ) (r : Row) (e : Event) (l : ListedEvent) : Type 0 where
  pub volume_is : l.volume ≡ volume
  pub number : l.number ≡ r.number
  pub moment : l.moment ≡ e.moment
  pub who : l.who.now ≡ e.who
  pub notes : l.notes.now ≡ e.notes
  pub reason : l.reason.now ≡ e.reason
  pub line : l.line.now ≡ r.line
  pub mark : l.mark.now ≡ r.mark

-- the object of an event, behind what stands before it; what tells no event has none
abbrev pub IsObjectOf : (volume : Option ℕ) → (is_first : Bool) → Row → Option Event → List ℕ → Type 0
IsObjectOf volume is_first r None text = ⊥
IsObjectOf volume is_first r (Some e) text = (l : ListedEvent) × IsListed volume r e l
    × (moment : List ℕ) × IsMomentText e.moment moment × (text ≡ between is_first ++ json_text (event_value l moment))

-- THE TEXT OF A ROW: its line, in which numbers have their volume, or its event as an object of JSON
abbrev pub IsEventText : (volume : Option ℕ) → (is_json is_first : Bool) → Seen → List ℕ → Type 0
IsEventText volume true is_first seen text = IsObjectOf volume is_first seen.0 seen.1 text
IsEventText volume false is_first seen text = text ≡ history_text (line_in volume (places_told seen.1) seen.0.line)

-- ---- what is printed

-- A ROW IS PRINTED where its event is asked for, by whether a record that is typed is there before it. What tells no event is printed
-- where all events are asked for, and as a line.
abbrev pub is_printed : HistoryAsked → (is_json is_there : Bool) → Option Event → Bool
is_printed asked is_json is_there None = asks_for_all asked && not is_json
is_printed asked is_json is_there (Some e) = asks_for asked is_there e

-- a record that is typed is there after a row
abbrev pub there_next : List TypedNumbers → (is_there : Bool) → Option Event → Bool
there_next words is_there None = is_there
there_next words is_there (Some e) = is_there_after words is_there e.deed

-- and after several
abbrev pub there_last : List TypedNumbers → (is_there : Bool) → List (Option Event) → Bool
there_last words is_there [] = is_there
there_last words is_there (o ∷ told) = there_last words (there_next words is_there o) told

-- THE ROWS THAT ARE PRINTED, of rows that tell these events, in their order
abbrev pub printed : HistoryAsked → (is_json is_there : Bool) → List Row → List (Option Event) → List Seen
printed asked is_json is_there (r ∷ rows) (o ∷ told) =
    only (is_printed asked is_json is_there o) (r, o)
    ++ printed asked is_json (there_next asked.numbers.items is_there o) rows told
printed asked is_json is_there rows told = []

-- the deeds of the events among them
abbrev pub deeds_in : List Seen → List Deed
deeds_in [] = []
deeds_in ((r, None) ∷ seen) = deeds_in seen
deeds_in ((r, Some e) ∷ seen) = e.deed ∷ deeds_in seen

-- these numbers are left of those that are typed: no event that is printed of these rows tells of one
pub record LeavesUnmet (asked : HistoryAsked) (is_json : Bool) (rows : List Row) (left : List TypedNumbers) : Type 0 where
  pub told : List (Option Event)
  pub tell : TellEach rows told
  pub are : left ≡ unmet asked.numbers.items (deeds_in (printed asked is_json false rows told))

-- EACH NUMBER THAT IS TYPED IS MET: an event that is printed of these rows is about a record of it
pub record MeetsAll (asked : HistoryAsked) (rows : List Row) : Type 0 where
  pub told : List (Option Event)
  pub tell : TellEach rows told
  pub met : are_met asked.numbers.items (deeds_in (printed asked asked.is_json false rows told)) ≡ true

-- ---- the texts of several histories

-- what stands before the events
abbrev pub head_of : (is_json : Bool) → List ℕ
head_of is_json = if is_json then codes "[" else []

-- what is yet to stand before them: nothing once it was written
abbrev pub head_unless : (is_begun is_json : Bool) → List ℕ
head_unless true is_json = []
head_unless false is_json = head_of is_json

abbrev pub head_in : {K : Type 0} → HistoryText K → List ℕ
head_in x = head_unless x.is_begun x.is_json

-- what stands after them
abbrev pub end_of : (is_json : Bool) → List ℕ
end_of is_json = if is_json then codes "\n]\n" else []

-- texts of which nothing is written yet
pub record IsNew {K : Type 0} (is_json : Bool) (sink : K) (x : HistoryText K) : Type 0 where
  pub sink_is : x.sink ≡ sink
  pub json : x.is_json ≡ is_json
  pub begun : x.is_begun ≡ false
  pub count : x.count ≡ 0

-- what stands before the events is written, unless that was done
pub record Begins {K : Type 0} (written : K → List ℕ → Type 0) (old new : HistoryText K) : Type 0 where
  pub added : Writes written old.sink new.sink (head_in old)
  pub counted : new.count ≡ old.count
  pub json : new.is_json ≡ old.is_json
  pub begun : new.is_begun ≡ true

-- these rows are printed, each once, in this order, and nothing else
pub record AddsRows {K : Type 0} (written : K → List ℕ → Type 0) (volume : Option ℕ) (old : HistoryText K) (seen : List Seen)
    (new : HistoryText K) : Type 0 where
  pub text : List ℕ
  pub are : AreTexts (IsEventText volume old.is_json) (old.count == 0) seen text
  pub added : Writes written old.sink new.sink text
  pub counted : new.count ≡ more_for seen old.count
  pub json : new.is_json ≡ old.is_json
  pub begun : new.is_begun ≡ old.is_begun

-- THE EVENTS OF A HISTORY THAT ARE ASKED FOR ARE PRINTED behind those of the stores before it, and nothing else
pub record AddsHistory {K : Type 0} (written : K → List ℕ → Type 0) (volume : Option ℕ) (asked : HistoryAsked) (old : HistoryText K)
    (rows : List Row) (new : HistoryText K) : Type 0 where
  pub told : List (Option Event)
  pub tell : TellEach rows told
  pub text : List ℕ
  pub are : AreTexts (IsEventText volume old.is_json) (old.count == 0) (printed asked old.is_json false rows told) text
  pub added : Writes written old.sink new.sink (head_in old ++ text)
  pub counted : new.count ≡ more_for (printed asked old.is_json false rows told) old.count
  pub json : new.is_json ≡ old.is_json
  pub begun : new.is_begun ≡ true

-- THE HISTORY OF THESE ROWS IS PRINTED: what stands before the events, the events that are asked for, each once and in this order, and
-- what stands after them; and nothing else
pub record WritesHistory {K : Type 0} (written : K → List ℕ → Type 0) (volume : Option ℕ) (asked : HistoryAsked) (before : K)
    (rows : List Row) (after : K) : Type 0 where
  pub told : List (Option Event)
  pub tell : TellEach rows told
  pub text : List ℕ
  pub are : AreTexts (IsEventText volume asked.is_json) true (printed asked asked.is_json false rows told) text
  pub writes : Writes written before after (head_of asked.is_json ++ text ++ end_of asked.is_json)

-- ALL IS PRINTED: what there is, and behind that what stands after all events
abbrev pub Ends : {K : Type 0} → (written : K → List ℕ → Type 0) → HistoryText K → K → Type 0
Ends written x after = Writes written x.sink after (head_in x ++ end_of x.is_json)

-- ---- as they are printed

-- the same is asked for, of the same volume
pub record IsOfTheSame (was is : PrintedHistory) : Type 0 where
  pub asked : is.asked ≡ was.asked
  pub volume : is.volume ≡ was.volume

-- a row that tells this event was printed, where that is asked for
pub record PrintsRow {K : Type 0} (written : K → List ℕ → Type 0) (was : PrintedHistory) (old : HistoryText K) (r : Row) (o : Option Event)
    (is : PrintedHistory) (new : HistoryText K) : Type 0 where
  pub added : AddsRows written was.volume old (only (is_printed was.asked.now old.is_json was.is_there o) (r, o)) new
  pub there : is.is_there ≡ there_next was.asked.now.numbers.items was.is_there o
  pub same : IsOfTheSame was is
  pub watch : is.watch ≡ was.watch
  pub met : is.missing.rest.items ≡ unmet was.missing.rest.items (deeds_in (only (is_printed was.asked.now old.is_json was.is_there o) (r, o)))

-- those of these rows were printed that are asked for, and all of them were judged
pub record PrintsRows {K : Type 0} (written : K → List ℕ → Type 0) (was : PrintedHistory) (old : HistoryText K) (rows : List Row)
    (is : PrintedHistory) (new : HistoryText K) : Type 0 where
  pub told : List (Option Event)
  pub tell : TellEach rows told
  pub added : AddsRows written was.volume old (printed was.asked.now old.is_json was.is_there rows told) new
  pub there : is.is_there ≡ there_last was.asked.now.numbers.items was.is_there told
  pub same : IsOfTheSame was is
  pub watched : (before : List Row) → Watches was.watch before → Watches is.watch (before ++ rows)
  pub met : is.missing.rest.items ≡ unmet was.missing.rest.items (deeds_in (printed was.asked.now old.is_json was.is_there rows told))
