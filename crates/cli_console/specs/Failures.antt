-- With which status something ends that is not done.
use Rattle.std.specs.Prelude.{◌≡◌, ◌||◌, ℕ, Bool, true, false, Option, Some, None, Result, Ok, Err, is_ok}
use Rattle.record_archive.specs.declared.fault.ArchiveFault.TheVariants as store
use Rattle.record_store.specs.Faults.{StoreFault}
use Rattle.cli_console.specs.declared.failure.Status.{Status}
use Rattle.cli_console.specs.declared.failure.Status.TheVariants.{Usage, BadData, NoInput, CannotMake, NotWritten, TryAgain}
use Rattle.cli_console.specs.declared.failure.Failure.{Failure}
use Rattle.cli_console.specs.declared.failure.Failure.TheVariants.{Closed, NoMemory, Told, Reported}

-- the numbers of sysexits.h
abbrev pub status_number : Status → ℕ
status_number Usage = 64
status_number BadData = 65
status_number NoInput = 66
status_number CannotMake = 73
status_number NotWritten = 74
status_number TryAgain = 75

-- IT IS TOLD WITH THIS STATUS, or there was no memory for its words
abbrev pub IsToldAs : Status → Failure → Type 0
IsToldAs status (Told s text) = s ≡ status
IsToldAs status NoMemory = Unit {0}
IsToldAs status Closed = ⊥
IsToldAs status (Reported s) = ⊥

-- what an archive refuses is told as bad data, and what its database refuses may be done later
abbrev pub IsOfStore : StoreFault → Failure → Type 0
IsOfStore store.NoMemory failure = failure ≡ NoMemory
IsOfStore (store.Database cause) failure = IsToldAs TryAgain failure
IsOfStore (store.Refused refusal) failure = IsToldAs BadData failure

-- the same failure, told with the status by which a mail server keeps its mail
abbrev pub IsKept : Failure → Failure → Type 0
IsKept (Told s text) kept = kept ≡ Told TryAgain text
IsKept Closed kept = kept ≡ Closed
IsKept NoMemory kept = kept ≡ NoMemory
IsKept (Reported s) kept = kept ≡ Reported s

-- the same failure, in other words where it is told, if there was memory for them
abbrev pub IsTheSame : Failure → Failure → Type 0
IsTheSame (Told s text) same = IsToldAs s same
IsTheSame Closed same = same ≡ Closed
IsTheSame NoMemory same = same ≡ NoMemory
IsTheSame (Reported s) same = same ≡ Reported s

-- a failure in a volume, whose words name the volume; in a store that is none it stays
abbrev pub IsInVolume : (volume : Option ℕ) → Failure → Failure → Type 0
IsInVolume None failure same = same ≡ failure
IsInVolume (Some v) failure same = IsTheSame failure same

-- ---- in one store after another

abbrev pub is_bad_data : Status → Bool
is_bad_data Usage = false
is_bad_data BadData = true
is_bad_data NoInput = false
is_bad_data CannotMake = false
is_bad_data NotWritten = false
is_bad_data TryAgain = false

-- WHAT WAS REFUSED IN ONE STORE LETS THE OTHERS GO ON where it is bad data that was reported; any other failure is the end
abbrev pub lets_go_on : Failure → Bool
lets_go_on Closed = false
lets_go_on NoMemory = false
lets_go_on (Told s text) = false
lets_go_on (Reported s) = is_bad_data s

-- something was refused in one of the stores so far, the last of which came to this
abbrev pub refused_after : (was_refused : Bool) → (last : Result (Unit {0}) Failure) → Bool
refused_after was_refused (Ok done) = was_refused
refused_after was_refused (Err failure) = lets_go_on failure || was_refused

-- after such a failure in one store this is what it comes to
abbrev pub GoesOnAfter : Failure → (goes_on : Bool) → Result (Unit {0}) Failure → Type 0
GoesOnAfter failure true joined = is_ok joined ≡ true
GoesOnAfter failure false joined = joined ≡ Err failure

-- WHAT ONE STORE CAME TO lets the others go on, or is the end
abbrev pub GoesOn : (last : Result (Unit {0}) Failure) → (joined : Result (Unit {0}) Failure) → Type 0
GoesOn (Ok done) joined = is_ok joined ≡ true
GoesOn (Err failure) joined = GoesOnAfter failure (lets_go_on failure) joined
