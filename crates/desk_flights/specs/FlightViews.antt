-- What is kept of a capture in flight, and what its calls answer about the flight that it holds.
use Rattle.std.specs.Prelude.{◌≡◌, ℕ, pos, ◌+◌, ◌⊎◌, min, List, Bool, true, not, nat_lt, Ok}
use Rattle.jiff.specs.Words.{epoch_day}
use Rattle.jiff_core.specs.declared.civil.date.Date.{Date}
use Rattle.class_paths.specs.Path.{unfiled}
use Rattle.sieve_meaning.specs.Case.{Facts}
use Rattle.sieve_meaning.specs.declared.outcome.Outcome.{Outcome}
use Rattle.filing_image.specs.Program.{Program}
use Rattle.mail_case.specs.Message.{is_among}
use Rattle.mail_case.specs.Whole.{facts_by}
use Rattle.mail_case.specs.declared.whole.WholeCase.{WholeCase}
use Rattle.filing_machine.specs.StateViews.{is_ended}
use Rattle.filing_machine.specs.Runs.{Snapshot}
use Rattle.desk_commands.specs.Pinning.{IsAlone, case_in}
use Rattle.desk_commands.specs.Standing.{Flight, IsInterrupted, IsPinned, turn_answer}
use Rattle.desk_commands.specs.CallAnswers.{answer_of_turn}
use Rattle.desk_commands.specs.declared.results.Turn.{Turn}

-- what is kept of a capture in flight; its case has the paths that were open at its beginning
pub record FlightView : Type 0 where
  pub ticket : ℕ
  pub program : Program
  pub message : List ℕ
  pub case : WholeCase (List (List ℕ))
  pub day : Date
  pub machine : Snapshot

-- what a run can learn of a message and a list of open paths
abbrev pub facts_in : WholeCase (List (List ℕ)) → Facts
facts_in c = facts_by is_among c

-- a capture holds a flight: they agree, and the machine has made as many steps as turns, but no more than the run has
pub record Holds (x : FlightView) (f : Flight) : Type 0 where
  pub ticket : x.ticket ≡ f.ticket
  pub program : x.program ≡ f.pinned
  pub pinned : IsPinned f
  pub message : x.message ≡ f.at_begin.message
  pub facts : facts_in x.case ≡ case_in f.at_begin
  pub day : epoch_day x.day ≡ pos f.at_begin.day
  pub steps : x.machine.steps ≡ min f.granted f.run_length

-- the flight after a number of further turns
abbrev pub granting_more : Flight → ℕ → Flight
granting_more f count = record f { granted = f.granted + count }

-- whether the machine has come to the end of its run
abbrev pub has_ended : FlightView → Bool
has_ended x = is_ended x.machine.progress

-- the flight was granted the turns
abbrev pub IsGranted : (old : FlightView) → (count : ℕ) → (new : FlightView) → Type 0
IsGranted old count new = (f : Flight) → Holds old f → Holds new (granting_more f count)

-- memory ran out after some of the turns, and the flight was granted those
abbrev pub StopsShort : (old : FlightView) → (count : ℕ) → (new : FlightView) → Type 0
StopsShort old count new = (f : Flight) → Holds old f → (made : ℕ) × IsInterrupted f count made ×
    Holds new (granting_more f made)

-- the answer is whether the flight was granted at least as many turns as its run has steps
abbrev pub TellsEnd : FlightView → Bool → Type 0
TellsEnd x b = (f : Flight) → Holds x f → b ≡ not (nat_lt f.granted f.run_length)

-- the answer to the turns of the flight so far
abbrev pub TellsTurns : FlightView → Turn → Type 0
TellsTurns x t = (f : Flight) → Holds x f → answer_of_turn (Ok t) ≡ turn_answer f f.granted

-- the outcome depends only on the state at the flight's beginning
abbrev pub IsOutcome : FlightView → Outcome → Type 0
IsOutcome x o = (f : Flight) → Holds x f → IsAlone f.at_begin o

-- the default class, or a path that was open at the beginning
abbrev pub IsOpenAtBegin : FlightView → List ℕ → Type 0
IsOpenAtBegin x q = (q ≡ unfiled) ⊎ (is_among x.case.paths q ≡ true)
