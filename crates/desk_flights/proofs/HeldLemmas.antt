-- A flight that is held, as its machine makes steps.
use Rattle.std.proofs.Common.{◌≡◌, ◌+◌, ℕ, min, refl, arith, subst}
use Rattle.std.specs.Prelude.{nat_lt, not, if◌then◌else◌}
use Rattle.std.proofs.lemmas.Bool.Decides.{nat_tests}
use Rattle.sieve_meaning.specs.declared.outcome.Outcome.{Outcome}
use Rattle.sieve_meaning.specs.Case.{Facts}
use Rattle.filing_image.specs.Program.{Program}
use Rattle.filing_table.specs.Ends.{HasOutcome}
use Rattle.filing_machine.specs.declared.state.Progress.{Progress}
use Rattle.filing_machine.specs.declared.state.Progress.TheVariants.{Going, Ended}
use Rattle.filing_machine.specs.StateViews.{state, is_ended}
use Rattle.filing_machine.specs.Runs.{Snapshot, IsOnRun, IsModestAt}
use Rattle.desk_commands.specs.Answers.{ended, running}
use Rattle.desk_commands.specs.Pinning.{case_in}
use Rattle.desk_commands.specs.Standing.{Flight, IsInterrupted, turn_answer}
use Rattle.desk_flights.specs.Machines.{HasMade, IsStopped}
use Rattle.desk_flights.specs.FlightViews.{FlightView, Holds, IsGranted, IsOutcome, StopsShort, TellsEnd, TellsTurns, facts_in, granting_more}
use Rattle.desk_flights.proofs.Lengths.{ended_at, runs_at, running_before, made_by}
use Rattle.desk_commands.proofs.Alone.{pinned_alone}

-- the same capture with another machine
abbrev pub with_machine : FlightView → Snapshot → FlightView
with_machine x m = record x { machine = m }

-- the machine is on the run of what is pinned, in the case of the state at the beginning
pub on_run : (x : FlightView) (f : Flight) (m : Snapshot) → Holds x f → IsOnRun x.program (facts_in x.case) m
    → IsOnRun f.pinned (case_in f.at_begin) m
on_run x f m h k =
    let P : Program → Type 0 = λ p. IsOnRun p (facts_in x.case) m in
    let Q : Facts → Type 0 = λ c. IsOnRun f.pinned c m in
    subst Q h.facts (subst P h.program k)

-- the flight is held after more turns, where the machine has made that many steps
moved : (x : FlightView) (m : Snapshot) (f : Flight) (k : ℕ) → Holds x f → m.steps ≡ min (f.granted + k) f.run_length
    → Holds (with_machine x m) (granting_more f k)
moved x m f k h n = record {
  ticket = h.ticket;
  program = h.program;
  pinned = record { pins = h.pinned.pins; well = h.pinned.well; length = h.pinned.length };
  message = h.message;
  facts = h.facts;
  day = h.day;
  steps = n;
}

pub made_grants : (x : FlightView) (m : Snapshot) (k : ℕ) → IsOnRun x.program (facts_in x.case) m → HasMade x.machine k m
    → IsGranted x k (with_machine x m)
made_grants x m k on made = λ f h.
    let length = h.pinned.length in
    moved x m f k h (made_by f.pinned (case_in f.at_begin) x.machine m f.run_length f.granted k length.0 m.progress refl
    (on_run x f m h on) length.1 h.steps made)

pub stopped_short : (x : FlightView) (m : Snapshot) (k : ℕ) → IsOnRun x.program (facts_in x.case) m
    → IsStopped x.program x.machine k m → StopsShort x k (with_machine x m)
stopped_short x m k on stop = λ f h.
    let length = h.pinned.length in
    let run = on_run x f m h on in
    let early = running_before f.pinned (case_in f.at_begin) m f.run_length length.0 stop.running run length.1 in
    let was = h.steps in
    let j = stop.made in
    let steps : m.steps ≡ f.granted + j = omega (arith, early, stop.steps, was) in
    let least : m.steps ≡ min (f.granted + j) f.run_length = omega (arith, early, steps) in
    let P : Program → Type 0 = λ p. IsModestAt p m.at.place → ⊥ in
    let at = runs_at f.pinned (case_in f.at_begin) m stop.running run in
    let interrupted : IsInterrupted f k j = record {
      within = stop.within;
      early = omega (arith, early, steps);
      state = state (case_in f.at_begin) m.at;
      stands = rw (← steps) at;
      takes_memory = subst P h.program stop.takes_memory;
    } in
    (j, interrupted, moved x m f j h least)

-- an end is answered exactly where the turns are at least as many as the steps of the run
ends_told : (x : FlightView) (f : Flight) (progress : Progress) → x.machine.progress ≡ progress
    → IsOnRun x.program (facts_in x.case) x.machine → Holds x f → is_ended progress ≡ not (nat_lt f.granted f.run_length)
ends_told x f Going e on h =
    let length = h.pinned.length in
    let early = running_before f.pinned (case_in f.at_begin) x.machine f.run_length length.0 e (on_run x f x.machine h on) length.1 in
    let was = h.steps in
    grind (arith, nat_tests, early, was)
ends_told x f (Ended fault) e on h =
    let length = h.pinned.length in
    let late = ended_at f.pinned (case_in f.at_begin) x.machine f.run_length length.0 fault e (on_run x f x.machine h on) length.1 in
    let was = h.steps in
    grind (arith, nat_tests, late, was)

pub tells_end : (x : FlightView) → IsOnRun x.program (facts_in x.case) x.machine → TellsEnd x (is_ended x.machine.progress)
tells_end x on = λ f h. ends_told x f x.machine.progress refl on h

turns_told : (x : FlightView) (f : Flight) (progress : Progress) → x.machine.progress ≡ progress
    → IsOnRun x.program (facts_in x.case) x.machine → Holds x f
    → (if is_ended progress then ended x.machine.steps else running x.machine.steps) ≡ turn_answer f f.granted
turns_told x f Going e on h =
    let length = h.pinned.length in
    let early = running_before f.pinned (case_in f.at_begin) x.machine f.run_length length.0 e (on_run x f x.machine h on) length.1 in
    let was = h.steps in
    grind (arith, nat_tests, early, was)
turns_told x f (Ended fault) e on h =
    let length = h.pinned.length in
    let late = ended_at f.pinned (case_in f.at_begin) x.machine f.run_length length.0 fault e (on_run x f x.machine h on) length.1 in
    let was = h.steps in
    grind (arith, nat_tests, late, was)

pub tells_turns : (x : FlightView) → IsOnRun x.program (facts_in x.case) x.machine
    → TellsTurns x (record { steps = x.machine.steps; ended = is_ended x.machine.progress })
tells_turns x on = λ f h. turns_told x f x.machine.progress refl on h

-- the outcome of the run is that of the capture alone
pub outcome_alone : (x : FlightView) (n : ℕ) (o : Outcome) → IsOnRun x.program (facts_in x.case) x.machine
    → ((p : Program) (c : Facts) → IsOnRun p c x.machine → HasOutcome p c n o) → IsOutcome x o
outcome_alone x n o on of = λ f h. pinned_alone f.at_begin f.pinned n o h.pinned.pins (of f.pinned (case_in f.at_begin) (on_run x f x.machine h on))
