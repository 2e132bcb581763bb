-- Records in runs of those of whose destruction the same is noted, and those of them whose messages were altered.
use Rattle.std.specs.Prelude.{◌≡◌, ◌<◌, ◌==◌, ℕ, not, Bool, true, false, List, map, filter, flat_map, length}
use Rattle.std.specs.Prelude.{codes, is_ok, Option, Some, None, Result, Ok, Err}
use Rattle.std.specs.List.{AllByRecursion}
use Rattle.std.specs.Str.{bytes_eq}
use Rattle.record_archive.specs.Archive.{Archive, body_of}
use Rattle.record_choice.specs.Entries.{OfRecord}
use Rattle.record_history.specs.Events.{Seal}
use Rattle.record_history.specs.Replay.{seal}
use Rattle.cli_console.specs.declared.failure.Failure.{Failure}
use Rattle.cli_console.specs.declared.failure.Failure.TheVariants.{Closed, NoMemory, Told, Reported}
use Rattle.cli_console.specs.Failures.{IsToldAs}
use Rattle.cli_console.specs.declared.failure.Status.{Status}
use Rattle.cli_console.specs.declared.failure.Status.TheVariants.{BadData}
use Rattle.cli_history.specs.Seals.{known, fidelity, notes_for}
use Rattle.cli_history.specs.declared.seals.Fidelity.{Fidelity}
use Rattle.cli_history.specs.declared.seals.Fidelity.TheVariants.{Unsealed, Same, Altered}
use Rattle.cli_history.specs.declared.seals.Seals.{Seals}
use Rattle.cli_changes.specs.declared.altered.Damage.{Damage}
use Rattle.cli_changes.specs.declared.altered.Damage.TheVariants.{Refused, Destroyed}
use Rattle.cli_changes.specs.declared.runs.Judged.{Judged}
use Rattle.cli_changes.specs.declared.runs.Run.{Run}

-- ---- what is noted of each record

-- the records of a run, each with what is noted of its destruction
abbrev pub noted_in : Run → List (ℕ × List ℕ)
noted_in run = map (λ n. (n, notes_for run.fidelity)) run.numbers.items

-- WHAT IS NOTED OF THE RECORDS of runs, in their order
abbrev pub noted : List Run → List (ℕ × List ℕ)
noted runs = flat_map noted_in runs

-- the records of runs, in their order
abbrev pub records_of : List Run → List ℕ
records_of runs = map (λ p. p.0) (noted runs)

-- each run has a record
abbrev pub AreFilled : List Run → Type 0
AreFilled runs = AllByRecursion (λ (r : Run). 0 < length r.numbers.items) runs

-- ---- by which seal it is noted

-- what a message is: nothing is known of one without a seal; else it is beside the one that was captured
abbrev pub IsFidelity : (sealed : Option (Seal × ℕ)) → (body : Option (List ℕ)) → Fidelity → Type 0
IsFidelity None body f = f ≡ Unsealed
IsFidelity (Some s) None f = ⊥
IsFidelity (Some s) (Some body) f = f ≡ fidelity (Some s) (seal body)

abbrev pub IsFidelityOf : Seals → Archive → (message : ℕ) → Fidelity → Type 0
IsFidelityOf seals a message f = IsFidelity (known seals message) (body_of a.messages message) f

-- THE NOTES OF A RECORD are those of what its message is
abbrev pub IsNoted : Seals → Archive → ℕ × List ℕ → Type 0
IsNoted seals a p = OfRecord a p.0 (λ r. (f : Fidelity) × IsFidelityOf seals a r.message f × (p.1 ≡ notes_for f))

-- a message that was judged, if one was, is so
abbrev pub IsJudged : Seals → Archive → Option Judged → Type 0
IsJudged seals a None = Unit {0}
IsJudged seals a (Some j) = IsFidelityOf seals a j.message j.fidelity

-- ---- altered messages

-- it is not known to be another message than the one that was captured
abbrev pub IsNotAltered : Fidelity → Type 0
IsNotAltered Unsealed = Unit {0}
IsNotAltered Same = Unit {0}
IsNotAltered (Altered event) = ⊥

-- THE MESSAGE OF A RECORD WAS NOT ALTERED, as far as its seal is known
abbrev pub IsUnaltered : Seals → Archive → (number : ℕ) → Type 0
IsUnaltered seals a n = OfRecord a n (λ r. (f : Fidelity) × IsFidelityOf seals a r.message f × IsNotAltered f)

-- the notes of a run say that its messages are not the ones that were captured
abbrev pub is_altered_run : Run → Bool
is_altered_run run = bytes_eq (notes_for run.fidelity) (codes "message=altered")

-- THE RECORDS WHOSE MESSAGES WERE ALTERED: those of the runs whose notes say so
abbrev pub altered : List Run → List ℕ
altered runs = flat_map (λ (r : Run). r.numbers.items) (filter is_altered_run runs)

-- A DISPOSAL IS REFUSED where a message was altered, unless damage is destroyed too
abbrev pub is_refused : (altered : List ℕ) → Damage → Bool
is_refused altered Refused = not (length altered == 0)
is_refused altered Destroyed = false

-- a disposal that is refused is told with this status; one that is not fails only for want of memory
abbrev pub IsRefusal : (refused : Bool) → Failure → Type 0
IsRefusal true failure = IsToldAs BadData failure
IsRefusal false failure = failure ≡ NoMemory

-- it was reported before with this status, or there was no memory for that
abbrev pub IsReportedAs : Status → Failure → Type 0
IsReportedAs status (Reported s) = s ≡ status
IsReportedAs status NoMemory = Unit {0}
IsReportedAs status (Told s text) = ⊥
IsReportedAs status Closed = ⊥

-- A LIST ENDS WELL where no message was altered, and there alone
abbrev pub IsListEnd : (is_none_altered : Bool) → Result (Unit {0}) Failure → Type 0
IsListEnd true done = is_ok done ≡ true
IsListEnd false (Ok done) = ⊥
IsListEnd false (Err failure) = IsReportedAs BadData failure
