-- The flight of a capture that begins.
use Rattle.std.proofs.Common.{◌≡◌, ◌≤◌, ◌+◌, ◌++◌, ◌∷◌, [], ℕ, List, length, pos, refl, None}
use Rattle.jiff.specs.Words.{epoch_day}
use Rattle.jiff_core.specs.declared.civil.date.Date.{Date}
use Rattle.sieve_meaning.specs.Case.{Facts}
use Rattle.sieve_meaning.specs.declared.outcome.Outcome.{Outcome}
use Rattle.filing_image.specs.Program.{Program}
use Rattle.filing_verify.specs.Well.{IsWell}
use Rattle.filing_table.specs.Ends.{HasOutcome}
use Rattle.mail_case.specs.Message.{is_among}
use Rattle.desk_commands.specs.Pinning.{Pins, BeginState, case_in}
use Rattle.desk_commands.specs.Standing.{Begins, Flight, IsPinned, Standing, begin_refusal, begin_state}
use Rattle.desk_flights.specs.Begun.{IsBegun}

-- a run of a program that may run ends within the budget, in each case: what `every_run_ends` says
abbrev pub RunsEnd : Type 0
RunsEnd = (p : Program) (c : Facts) → IsWell p → (n : ℕ) × (o : Outcome) × (n ≤ p.budget) × HasOutcome p c n o

-- the flight that begins with a ticket; its run is as long as that of a program that may run
abbrev pub first_flight : RunsEnd → (ticket : ℕ) → (s : BeginState) → (p : Program) → IsWell p → Flight
first_flight ends ticket s p well = record { ticket = ticket; at_begin = s; pinned = p; run_length = (ends p (case_in s) well).0; granted = 0 }

pub first_pinned : (ends : RunsEnd) (t : ℕ) (s : BeginState) (p : Program) (well : IsWell p) → Pins s p → IsPinned (first_flight ends t s p well)
first_pinned ends t s p well pins = let run = ends p (case_in s) well in record { pins = pins; well = well; length = (run.1, run.3) }

-- it begins with the program, the message, the open paths and the day of the state at its beginning
pub first_begun : (ends : RunsEnd) (t : ℕ) (s : BeginState) (p : Program) (well : IsWell p) (paths : List (List ℕ))
    (day : Date) → Pins s p → s.is_open ≡ is_among paths → epoch_day day ≡ pos s.day
    → IsBegun t p s.message paths day (first_flight ends t s p well)
first_begun ends t s p well paths day pins opens on =
    record {
      ticket = refl;
      program = refl;
      pinned = first_pinned ends t s p well pins;
      message = refl;
      paths = opens;
      day = on;
      fresh = refl;
    }

-- the state of the desk after a capture has begun
abbrev pub after_begin : (s : Standing) → Flight → Standing
after_begin s f = record { office = s.office; flights = s.flights ++ f ∷ []; last = s.last + 1 }

pub begins : (ends : RunsEnd) (s : Standing) (officer : List ℕ) (moment : ℕ) (message : List ℕ) (p : Program)
    (well : IsWell p) → begin_refusal (length s.flights) s.last moment (length message) ≡ None
    → Pins (begin_state s.office officer moment message) p
    → Begins s officer moment message (s.last + 1) p.budget
    (after_begin s (first_flight ends (s.last + 1) (begin_state s.office officer moment message) p well))
begins ends s officer moment message p well allowed pins =
    let at_begin = begin_state s.office officer moment message in
    record {
      allowed = allowed;
      flight = first_flight ends (s.last + 1) at_begin p well;
      pinned = first_pinned ends (s.last + 1) at_begin p well pins;
      next = refl;
      at_begin = refl;
      fresh = refl;
      ticket = refl;
      budget = refl;
      leaves = refl;
    }
