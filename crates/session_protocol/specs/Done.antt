-- What a session has done, whatever its streams know of their octets.
use Rattle.std.specs.Prelude.{◌≡◌, ◌≤◌, ◌⊎◌, ℕ, List, [], ◌∷◌, ◌++◌, length, take, Result, Ok, Err}
use Rattle.desk_commands.specs.Answers.{Answer}
use Rattle.desk_commands.specs.Standing.{Command}
use Rattle.session_protocol.specs.Replies.{reply_octets}
use Rattle.session_protocol.specs.Session.{Item, Session, Run, answers_octets, ending_octets}
use Rattle.session_protocol.specs.Streams.{IsAfter}
use Rattle.session_protocol.specs.declared.items.SessionEnd.{SessionEnd}
use Rattle.session_protocol.specs.declared.session.ServeFault.{ServeFault}
use Rattle.session_protocol.specs.declared.session.ServeFault.TheVariants.{Read, Write}

-- Items were done, each once and one after the other, with these answers. They are no more than a session may have.
-- `Heard` and `Said` are what is known of the items and of the answers.
pub record HasDone {D : Type 0} (Does : D → Command → Answer → D → Type 0) (Heard : List Item → Type 0)
    (Said : List Answer → Type 0) (old new : D) : Type 0 where
  pub items : List Item
  pub answers : List Answer
  pub run : Run Does old items answers new
  pub few : length items ≤ 1000000
  pub heard : Heard items
  pub said : Said answers

-- the items are those of the session, or after a fault the first of them
abbrev pub Hears : Result (Unit {0}) ServeFault → Session → List Item → Type 0
Hears (Ok done) session items = items ≡ session.items
Hears (Err fault) session items = (n : ℕ) × (items ≡ take n session.items)

-- all answers but the last were written, and of the last a prefix
abbrev pub SaysPart : (old : List ℕ) → List Answer → (written : List ℕ) → Type 0
SaysPart old answers written = (first : List Answer) × (last : Answer) × (answers ≡ first ++ last ∷ [])
    × IsAfter (old ++ answers_octets first) (reply_octets last) written

-- The answers and an ending were written. After a read fault all answers were written; after a write fault a rest of
-- the last answer or of an ending is missing.
abbrev pub Says : Result (Unit {0}) ServeFault → (old : List ℕ) → List Answer → (written : List ℕ) → Type 0
Says (Ok done) old answers written =
    (ending : SessionEnd) × (written ≡ old ++ answers_octets answers ++ ending_octets ending)
Says (Err Read) old answers written = written ≡ old ++ answers_octets answers
Says (Err Write) old answers written = SaysPart old answers written
    ⊎ ((ending : SessionEnd) × IsAfter (old ++ answers_octets answers) (ending_octets ending) written)
