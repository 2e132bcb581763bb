-- The whole state of a desk, with the turns of each capture in flight, and which answers each command may have.
use Rattle.std.specs.Prelude.{◌≡◌, ℕ, ◌+◌, ◌<◌, ◌/◌, ◌⊎◌, List, [], ◌∷◌, ◌++◌, length, Bool, true, false, ◌==◌, if◌then◌else◌, nat_lt, nat_le, Option, Some, None, Ok, Err}
use Rattle.sieve_meaning.specs.declared.outcome.Outcome.{Outcome}
use Rattle.class_plan.specs.Plans.{is_open_in}
use Rattle.filing_image.specs.Program.{Program}
use Rattle.filing_verify.specs.Well.{IsWell}
use Rattle.filing_table.specs.Machine.{State, At, after_steps}
use Rattle.filing_table.specs.Ends.{HasOutcome}
use Rattle.filing_machine.specs.Runs.{IsModestAt}
use Rattle.record_archive.specs.Archive.{Archive, capture, capture_lines}
use Rattle.record_archive.specs.declared.fault.ArchiveRefusal.TheVariants.{Full}
use Rattle.desk_commands.specs.Answers.{Answer, begun, running, ended, captured, refused}
use Rattle.desk_commands.specs.Limits.{greatest_message, last_moment, last_ticket, most_in_flight}
use Rattle.desk_commands.specs.Pinning.{BeginState, case_in, IsAlone, Pins, choice_by}
use Rattle.desk_commands.specs.Office.{Office, opening_office, PlainCommand, OfficeStep, IsTrouble, with_archive}
use Rattle.desk_commands.specs.Scripts.{library}

pub data Command : Type 0 where
  plain : PlainCommand → Command
  -- Begins a capture of a message by an officer's program; a moment is in seconds since 1970-01-01T00:00:00Z.
  begin : (officer : List ℕ) (moment : ℕ) (message : List ℕ) → Command
  -- Grants a number of turns to a capture.
  turn : (ticket count : ℕ) → Command
  -- Makes the records of a capture that has come to its end.
  finish : (ticket : ℕ) → Command

-- A capture in flight: the state at its beginning, what is pinned, the length of its run, and the turns that it was
-- granted so far.
pub record Flight : Type 0 where
  pub ticket : ℕ
  pub at_begin : BeginState
  pub pinned : Program
  pub run_length : ℕ
  pub granted : ℕ

pub record Standing : Type 0 where
  pub office : Office
  pub flights : List Flight
  -- The last ticket given.
  pub last : ℕ

abbrev pub opening : Archive → Standing
opening a = record { office = opening_office a; flights = []; last = 0 }

-- The first capture of this ticket.
abbrev pub flight_of : ℕ → List Flight → Option Flight
flight_of t [] = None
flight_of t (f ∷ fs) = if f.ticket == t then Some f else flight_of t fs

-- The captures after one was granted turns.
abbrev pub grant : ℕ → ℕ → List Flight → List Flight
grant t k [] = []
grant t k (f ∷ fs) = if f.ticket == t then record f { granted = f.granted + k } ∷ fs else f ∷ grant t k fs

-- The captures without that ticket.
abbrev pub without : ℕ → List Flight → List Flight
without t [] = []
without t (f ∷ fs) = if f.ticket == t then fs else f ∷ without t fs

abbrev pub with_turns : Standing → ℕ → ℕ → Standing
with_turns s t k = record s { flights = grant t k s.flights }

-- The first reason against one more capture: 94 for the moment, 95 for the message, 90 for the captures in flight, 97
-- for the tickets.
abbrev pub begin_refusal : (count last moment size : ℕ) → Option ℕ
begin_refusal count last moment size =
    if nat_lt last_moment moment then Some 94
    else if nat_lt greatest_message size then Some 95
    else if nat_le most_in_flight count then Some 90
    else if nat_le last_ticket last then Some 97
    else None

-- The state at the beginning of a capture; a day has 86,400 seconds.
abbrev pub begin_state : Office → (officer : List ℕ) → (moment : ℕ) → (message : List ℕ) → BeginState
begin_state s officer moment message = record {
  program = choice_by (s.officers officer).active (s.officers officer).scripts;
  library = library (s.officers officer).scripts s.globals;
  message = message;
  is_open = is_open_in s.archive.plan;
  day = moment / 86400;
}

-- The run of the program in the case of that state has this many steps.
abbrev pub IsLength : BeginState → Program → ℕ → Type 0
IsLength s p n = (o : Outcome) × HasOutcome p (case_in s) n o

-- What is pinned for the capture fits the state at its beginning, may run, and has a run of the given length.
pub record IsPinned (f : Flight) : Type 0 where
  pub pins : Pins f.at_begin f.pinned
  pub well : IsWell f.pinned
  pub length : IsLength f.at_begin f.pinned f.run_length

-- A capture begins with this ticket and budget, and this is the state afterwards.
pub record Begins (s : Standing) (officer : List ℕ) (moment : ℕ) (message : List ℕ) (t b : ℕ)
    (new : Standing) : Type 0 where
  pub allowed : begin_refusal (length s.flights) s.last moment (length message) ≡ None
  pub flight : Flight
  pub pinned : IsPinned flight
  pub next : flight.ticket ≡ s.last + 1
  pub at_begin : flight.at_begin ≡ begin_state s.office officer moment message
  pub fresh : flight.granted ≡ 0
  pub ticket : t ≡ s.last + 1
  pub budget : b ≡ flight.pinned.budget
  pub leaves : new ≡ record { office = s.office; flights = s.flights ++ flight ∷ []; last = s.last + 1 }

-- The refusal of a beginning: the first reason against it, or 99 where there is none.
abbrev pub RefusesBegin : Standing → (moment size number : ℕ) → Type 0
RefusesBegin s moment size n =
    (begin_refusal (length s.flights) s.last moment size ≡ Some n) ⊎
    ((begin_refusal (length s.flights) s.last moment size ≡ None) × (n ≡ 99))

abbrev pub BeginStep : Standing → (officer : List ℕ) → (moment : ℕ) → (message : List ℕ) → Answer → Standing → Type 0
BeginStep s officer moment message (begun t b) new = Begins s officer moment message t b new
BeginStep s officer moment message (refused n at) new = (new ≡ s) × (at ≡ None) ×
    RefusesBegin s moment (length message) n
BeginStep s officer moment message _ new = ⊥

-- What a capture answers after a number of turns in all.
abbrev pub turn_answer : Flight → ℕ → Answer
turn_answer f k = if nat_le f.run_length k then ended f.run_length else running k

-- Memory runs out after some of the turns, where the machine is about to run an instruction that takes memory.
pub record IsInterrupted (f : Flight) (count made : ℕ) : Type 0 where
  pub within : made < count
  pub early : f.granted + made < f.run_length
  pub state : State
  pub stands : after_steps f.pinned (case_in f.at_begin) (f.granted + made) ≡ At state
  pub takes_memory : IsModestAt f.pinned state.place → ⊥

abbrev pub TurnStep : Standing → (t count : ℕ) → Option Flight → Answer → Standing → Type 0
TurnStep s t k None a new = (a ≡ refused 91 None) × (new ≡ s)
TurnStep s t k (Some f) a new =
    ((a ≡ turn_answer f (f.granted + k)) × (new ≡ with_turns s t k))
    ⊎ ((a ≡ refused 99 None) × ((j : ℕ) × IsInterrupted f k j × (new ≡ with_turns s t j)))

-- What a whole capture answers, and the archive afterwards: its outcome's fault and the lines of its records, or 87.
abbrev pub Files : Archive → BeginState → Answer → Archive → Type 0
Files a at_begin (captured fault lines) new =
    (o : Outcome) × IsAlone at_begin o × (fault ≡ o.fault) × (capture a at_begin.message at_begin.day o.classes ≡ Ok new) ×
    (lines ≡ capture_lines a at_begin.day o.classes)
Files a at_begin (refused n at) new = (n ≡ 87) × (at ≡ None) × (new ≡ a) ×
    ((o : Outcome) × IsAlone at_begin o × (capture a at_begin.message at_begin.day o.classes ≡ Err Full))
Files a at_begin _ new = ⊥

-- A ticket is given up by an answer that is no refusal.
abbrev pub is_refusal : Answer → Bool
is_refusal (refused n at) = true
is_refusal _ = false

abbrev pub after_finish : Standing → (t : ℕ) → Answer → Archive → Standing
after_finish s t a b = record { office = with_archive s.office b; flights = if is_refusal a then s.flights else without t s.flights; last = s.last }

abbrev pub FinishWhole : Standing → (t : ℕ) → (early : Bool) → BeginState → Answer → Standing → Type 0
FinishWhole s t true at_begin a new = (a ≡ refused 92 None) × (new ≡ s)
FinishWhole s t false at_begin a new =
    ((b : Archive) × Files s.office.archive at_begin a b × (new ≡ after_finish s t a b))
    ⊎ ((n : ℕ) × IsTrouble n × (a ≡ refused n None) × (new ≡ s))

abbrev pub FinishStep : Standing → (t : ℕ) → Option Flight → Answer → Standing → Type 0
FinishStep s t None a new = (a ≡ refused 91 None) × (new ≡ s)
FinishStep s t (Some f) a new = FinishWhole s t (nat_lt f.granted f.run_length) f.at_begin a new

-- The answers that a command may have, and the state afterwards.
unfoldable pub Step : Standing → Command → Answer → Standing → Type 0
Step s (plain c) a new = (b : Office) × OfficeStep s.office c a b × (new ≡ record s { office = b })
Step s (begin officer moment message) a new = BeginStep s officer moment message a new
Step s (turn t k) a new = TurnStep s t k (flight_of t s.flights) a new
Step s (finish t) a new = FinishStep s t (flight_of t s.flights) a new
