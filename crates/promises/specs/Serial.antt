-- The serial session: a session without its turns and without the commands that were given up. Each capture is whole at
-- its finish, and there is no machine, step or half-done capture.
use Rattle.std.specs.Prelude.{◌≡◌, ℕ, ◌+◌, List, [], ◌∷◌, ◌++◌, length, map, Bool, true, false, ◌==◌, ◌||◌, if◌then◌else◌, Option, Some, None}
use Rattle.record_archive.specs.Archive.{Archive}
use Rattle.desk_commands.specs.Answers.{Answer, begun, refused}
use Rattle.desk_commands.specs.Pinning.{BeginState, budget_of}
use Rattle.desk_commands.specs.Office.{Office, OfficeRule, with_archive}
use Rattle.desk_commands.specs.Standing.{Command, plain, begin, turn, finish, Flight, Standing, begin_refusal, begin_state, Files, is_refusal}
use Rattle.promises.specs.Runs.{SessionFrom}

-- a capture that has begun, with what stood at its beginning
pub record Ticket : Type 0 where
  pub number : ℕ
  pub at_begin : BeginState

pub record Serial : Type 0 where
  pub office : Office
  pub tickets : List Ticket
  -- the last ticket given
  pub last : ℕ

-- a state without turns and machines
abbrev pub ticket_of : Flight → Ticket
ticket_of f = record { number = f.ticket; at_begin = f.at_begin }

abbrev pub forget : Standing → Serial
forget s = record { office = s.office; tickets = map ticket_of s.flights; last = s.last }

-- two states that differ only in the turns of captures in flight
abbrev pub SameButTurns : Standing → Standing → Type 0
SameButTurns s t = forget s ≡ forget t

-- what stood at the beginning of the first capture of this ticket
abbrev pub stood_of : ℕ → List Ticket → Option BeginState
stood_of t [] = None
stood_of t (x ∷ xs) = if x.number == t then Some x.at_begin else stood_of t xs

-- the tickets without that one
abbrev pub without_ticket : ℕ → List Ticket → List Ticket
without_ticket t [] = []
without_ticket t (x ∷ xs) = if x.number == t then xs else x ∷ without_ticket t xs

-- the next ticket, with what stands
abbrev pub next_ticket : Serial → (officer : List ℕ) → (moment : ℕ) → (message : List ℕ) → Ticket
next_ticket s officer moment message = record { number = s.last + 1; at_begin = begin_state s.office officer moment message }

-- a capture begins under the next ticket, and what stands is noted
pub record IsNoted (s : Serial) (officer : List ℕ) (moment : ℕ) (message : List ℕ) (t b : ℕ)
    (new : Serial) : Type 0 where
  pub allowed : begin_refusal (length s.tickets) s.last moment (length message) ≡ None
  pub ticket : t ≡ s.last + 1
  pub budget : b ≡ budget_of (begin_state s.office officer moment message)
  pub leaves : new ≡ record { office = s.office; tickets = s.tickets ++ next_ticket s officer moment message ∷ []; last = s.last + 1 }

abbrev pub SerialBegin : Serial → (officer : List ℕ) → (moment : ℕ) → (message : List ℕ) → Answer → Serial → Type 0
SerialBegin s officer moment message (begun t b) new = IsNoted s officer moment message t b new
SerialBegin s officer moment message (refused n at) new =
    (new ≡ s) × (at ≡ None) × (begin_refusal (length s.tickets) s.last moment (length message) ≡ Some n)
SerialBegin s officer moment message _ new = ⊥

-- the records of a capture are made, and its ticket is given up by an answer that is no refusal
abbrev pub giving_up : Serial → (t : ℕ) → Answer → Archive → Serial
giving_up s t a b = record { office = with_archive s.office b; tickets = if is_refusal a then s.tickets else without_ticket t s.tickets; last = s.last }

abbrev pub SerialFinish : Serial → (t : ℕ) → Option BeginState → Answer → Serial → Type 0
SerialFinish s t None a new = (a ≡ refused 91 None) × (new ≡ s)
SerialFinish s t (Some at_begin) a new = (b : Archive) × Files s.office.archive at_begin a b × (new ≡ giving_up s t a b)

-- a command of the serial session, an answer that it may have, and the state that it leaves
abbrev pub SerialStep : Serial → Command → Answer → Serial → Type 0
SerialStep s (plain c) a new = (b : Office) × OfficeRule s.office c a b × (new ≡ record s { office = b })
SerialStep s (begin officer moment message) a new = SerialBegin s officer moment message a new
SerialStep s (turn t k) a new = ⊥
SerialStep s (finish t) a new = SerialFinish s t (stood_of t s.tickets) a new

-- no memory (99), a refusal of the database (89), and the refusal of a capture that has not come to its end (92)
abbrev pub is_passing : Answer → Bool
is_passing (refused n at) = (n == 89) || ((n == 92) || (n == 99))
is_passing _ = false

-- what is struck of a session: every TURN, and every command that was answered 89, 92 or 99
abbrev pub is_struck : Command → Answer → Bool
is_struck (turn t k) a = true
is_struck _ a = is_passing a

-- commands with their answers, one after the other, none of them struck, and the state that they leave
abbrev pub SerialRun : Serial → List Command → List Answer → Serial → Type 0
SerialRun s [] [] new = new ≡ s
SerialRun s (c ∷ commands) (a ∷ answers) new = (mid : Serial) × (is_struck c a ≡ false) × SerialStep s c a mid ×
    SerialRun mid commands answers new
SerialRun s [] (a ∷ answers) new = ⊥
SerialRun s (c ∷ commands) [] new = ⊥

-- the commands that are not struck
abbrev pub kept_commands : List Command → List Answer → List Command
kept_commands (c ∷ commands) (a ∷ answers) = if is_struck c a then kept_commands commands answers
    else c ∷ kept_commands commands answers
kept_commands [] answers = []
kept_commands (c ∷ commands) [] = []

-- their answers
abbrev pub kept_answers : List Command → List Answer → List Answer
kept_answers (c ∷ commands) (a ∷ answers) = if is_struck c a then kept_answers commands answers
    else a ∷ kept_answers commands answers
kept_answers [] answers = []
kept_answers (c ∷ commands) [] = []

-- the commands of two sessions are equal after striking
abbrev pub EqualAfterStriking : {s t : Standing} → SessionFrom s → SessionFrom t → Type 0
EqualAfterStriking x y = kept_commands x.commands x.answers ≡ kept_commands y.commands y.answers
