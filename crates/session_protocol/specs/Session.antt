-- The commands of a session's octets, the runs of a desk that they lead to, and the octets of its answers.
use Rattle.std.specs.Prelude.{◌≡◌, ◌⊎◌, ℕ, zero, suc, ◌+◌, List, [], ◌∷◌, ◌++◌, if◌then◌else◌, nat_le, None, length, take, drop, codes, flat_map}
use Rattle.desk_commands.specs.Answers.{Answer, refused}
use Rattle.desk_commands.specs.Standing.{Command}
use Rattle.session_protocol.specs.Lines.{InputLine, Whole, TooLong, Cut, End, line_of}
use Rattle.session_protocol.specs.LineRequests.{LineRequest, Alone, One, Two, Quit, Unknown, BadWord, request_of}
use Rattle.session_protocol.specs.Replies.{reply_octets}
use Rattle.session_protocol.specs.Streams.{IsAfter}
use Rattle.session_protocol.specs.declared.items.SessionEnd.{SessionEnd}
use Rattle.session_protocol.specs.declared.items.SessionEnd.TheVariants as ending

-- what one line asks, with its payloads
pub data Item : Type 0 where
  -- a command to the desk
  Call : Command → Item
  -- a line whose first word is no command's
  UnknownCommand : Item
  -- a line with a wrong word, or a wrong number of words
  WrongWord : Item

-- what an input begins with: an item or the session's end, and the octets after it
pub data InputStart : Type 0 where
  Got : Item → (rest : List ℕ) → InputStart
  Stop : SessionEnd → (rest : List ℕ) → InputStart

-- a session: its items, and how it ends
pub record Session : Type 0 where
  pub items : List Item
  pub ending : SessionEnd

-- a payload follows the line's LF directly
abbrev pub with_payload : (size : ℕ) → (List ℕ → Command) → (rest : List ℕ) → InputStart
with_payload size command rest = if nat_le size (length rest)
    then Got (Call (command (take size rest))) (drop size rest) else Stop ending.CutShort []

-- and a second one directly follows the first
abbrev pub with_payloads : (first second : ℕ) → (List ℕ → List ℕ → Command) → (rest : List ℕ) → InputStart
with_payloads first second command rest =
    if nat_le (first + second) (length rest)
    then Got (Call (command (take first rest) (take second (drop first rest)))) (drop (first + second) rest)
    else Stop ending.CutShort []

abbrev pub start_by_request : LineRequest → (rest : List ℕ) → InputStart
start_by_request (Alone command) rest = Got (Call command) rest
start_by_request (One size command) rest = with_payload size command rest
start_by_request (Two first second command) rest = with_payloads first second command rest
start_by_request Quit rest = Stop ending.Quit rest
start_by_request Unknown rest = Got UnknownCommand rest
start_by_request BadWord rest = Got WrongWord rest

abbrev pub start_by_line : InputLine → InputStart
start_by_line (Whole text rest) = start_by_request (request_of text) rest
start_by_line (TooLong rest) = Stop ending.LongLine rest
start_by_line Cut = Stop ending.CutShort []
start_by_line End = Stop ending.Ended []

-- what an input begins with
abbrev pub start_of : List ℕ → InputStart
start_of input = start_by_line (line_of input)

abbrev pub go_on : InputStart → (List ℕ → Session) → Session
go_on (Got item rest) next = record { items = item ∷ (next rest).items; ending = (next rest).ending }
go_on (Stop e rest) next = record { items = []; ending = e }

-- the session of an input, with at most this number of items
unfoldable pub session_of : ℕ → List ℕ → Session
session_of zero input = record { items = []; ending = ending.Limit }
session_of (suc most) input = go_on (start_of input) (λ rest. session_of most rest)

-- the session of an input: it has at most 1,000,000 items
abbrev pub session_in : List ℕ → Session
session_in input = session_of 1000000 input

-- what is left unread: after an item, what is left of the rest; after an ending, all the rest
abbrev pub left_after : InputStart → (List ℕ → List ℕ) → List ℕ
left_after (Got item rest) next = next rest
left_after (Stop e rest) next = rest

-- What a session with at most this number of items leaves unread of an input: what follows the line that ends it, or
-- its last item. Of a line that is too long, 513 octets are read.
unfoldable pub left_by : ℕ → List ℕ → List ℕ
left_by zero input = input
left_by (suc most) input = left_after (start_of input) (λ rest. left_by most rest)

-- what is written at the end
abbrev pub ending_octets : SessionEnd → List ℕ
ending_octets ending.Quit = codes "end\n"
ending_octets ending.Ended = codes "end\n"
ending_octets ending.CutShort = codes "refused 72\nend\n"
ending_octets ending.LongLine = codes "refused 73\nend\n"
ending_octets ending.Limit = codes "end\n"

-- what is written for answers
abbrev pub answers_octets : List Answer → List ℕ
answers_octets answers = flat_map reply_octets answers

-- These definitions are over desks, and over the states that desks represent. `Does` says which answer a command may
-- have, and what it leaves.
module _ {D : Type 0} (Does : D → Command → Answer → D → Type 0) where
  -- an item, its answer and what it leaves: a command as `Does` says; any other line is refused and changes nothing
  abbrev pub ItemStep : D → Item → Answer → D → Type 0
  ItemStep s (Call c) a new = Does s c a new
  ItemStep s UnknownCommand a new = (a ≡ refused 70 None) × (new ≡ s)
  ItemStep s WrongWord a new = (a ≡ refused 71 None) × (new ≡ s)

  -- items with their answers, one after the other, and what they leave
  abbrev pub Run : D → List Item → List Answer → D → Type 0
  Run s [] [] new = new ≡ s
  Run s (i ∷ items) (a ∷ answers) new = (mid : D) × ItemStep s i a mid × Run mid items answers new
  Run s [] (a ∷ answers) new = ⊥
  Run s (i ∷ items) [] new = ⊥

  -- all items were done, and all answers and the ending were written
  abbrev pub IsServed : Session → D → (old written : List ℕ) → D → Type 0
  IsServed session s old written new =
      (answers : List Answer) × Run s session.items answers new ×
      (written ≡ old ++ answers_octets answers ++ ending_octets session.ending)

  -- some first items were done, and all their answers were written
  abbrev pub IsAnswered : Session → D → (old written : List ℕ) → D → Type 0
  IsAnswered session s old written new =
      (n : ℕ) × (answers : List Answer) × Run s (take n session.items) answers new ×
      (written ≡ old ++ answers_octets answers)

  -- some first items were done, all their answers but the last were written, and of the last a prefix
  abbrev pub IsCutInAnswer : Session → D → (old written : List ℕ) → D → Type 0
  IsCutInAnswer session s old written new =
      (n : ℕ) × (answers : List Answer) × (last : Answer) × Run s (take n session.items) (answers ++ last ∷ []) new
      × IsAfter (old ++ answers_octets answers) (reply_octets last) written

  -- all items were done, all their answers were written, and of the ending a prefix
  abbrev pub IsCutInEnding : Session → D → (old written : List ℕ) → D → Type 0
  IsCutInEnding session s old written new =
      (answers : List Answer) × Run s session.items answers new ×
      IsAfter (old ++ answers_octets answers) (ending_octets session.ending) written

  -- a rest of the output is missing, of the last answer or of the ending
  abbrev pub IsCut : Session → D → (old written : List ℕ) → D → Type 0
  IsCut session s old written new = IsCutInAnswer session s old written new ⊎ IsCutInEnding session s old written new

-- the input ended, between items or inside one
abbrev pub EndsByInput : SessionEnd → Type 0
EndsByInput ending.Ended = Unit {0}
EndsByInput ending.CutShort = Unit {0}
EndsByInput ending.Quit = ⊥
EndsByInput ending.LongLine = ⊥
EndsByInput ending.Limit = ⊥
