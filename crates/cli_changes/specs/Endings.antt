-- With which status a delivery or an intake ends, and what is answered of a message.
use Rattle.std.specs.Prelude.{◌≡◌, ◌||◌, ℕ, nat_lt, ◌==◌, Bool, true, false, not, if◌then◌else◌, List, length}
use Rattle.std.specs.Prelude.{Option, Some, None, Result, Ok, Err, is_ok}
use Rattle.std.specs.declared.io.ErrorKind.{ErrorKind}
use Rattle.std.specs.declared.io.ErrorKind.TheVariants as kind
use Rattle.desk_commands.specs.declared.fault.DeskFault.{DeskFault}
use Rattle.desk_commands.specs.declared.fault.DeskFault.TheVariants as desk
use Rattle.desk_commands.specs.declared.results.Capture.{Capture}
use Rattle.filing_desk.specs.declared.deliveries.Delivery.{Delivery}
use Rattle.filing_desk.specs.declared.deliveries.Delivery.TheVariants.{Captured, GivenUp, OutOfTime}
use Rattle.filing_desk.specs.declared.deliveries.OnFault.{OnFault}
use Rattle.filing_desk.specs.declared.deliveries.OnFault.TheVariants as on_fault
use Rattle.mail_intake.specs.declared.intake.End.{End}
use Rattle.mail_intake.specs.declared.intake.End.TheVariants.{Done, NotCaptured, NotMoved, NotSettled}
use Rattle.mail_intake.specs.declared.intake.Taking.{Taking}
use Rattle.mail_intake.specs.declared.mailroom.Refusal.{Refusal}
use Rattle.mail_intake.specs.declared.mailroom.Refusal.TheVariants.{Stays, Ends}
use Rattle.mail_intake.specs.declared.mailroom.Taken.{Taken}
use Rattle.mail_intake.specs.declared.mailroom.Taken.TheVariants as taken
use Rattle.mail_intake.specs.declared.reason.Reason.{Reason}
use Rattle.mail_intake.specs.declared.reason.Reason.TheVariants as reason
use Rattle.mail_intake.specs.declared.tally.Tally.{Tally}
use Rattle.sieve_meaning.specs.declared.run_fault.RunFault.{RunFault}
use Rattle.cli_console.specs.declared.failure.Failure.{Failure}
use Rattle.cli_console.specs.declared.failure.Failure.TheVariants.{NoMemory, Reported}
use Rattle.cli_console.specs.declared.failure.Status.{Status}
use Rattle.cli_console.specs.declared.failure.Status.TheVariants.{Usage, BadData, NoInput, TryAgain}
use Rattle.cli_console.specs.Failures.{IsToldAs}
use Rattle.cli_sources.specs.Faults.{is_of_rules}
use Rattle.cli_sources.specs.declared.fault.RulesFault.{RulesFault}

-- the status for what a desk refuses; none where there was no memory
abbrev pub desk_status : DeskFault → Option Status
desk_status desk.NoMemory = None
desk_status desk.BadMoment = Some Usage
desk_status desk.MessageTooLong = Some BadData
desk_status _ = Some TryAgain

-- a failure that is told with this status; where there is none, want of memory
abbrev pub IsFailureOf : Option Status → Failure → Type 0
IsFailureOf None failure = failure ≡ NoMemory
IsFailureOf (Some status) failure = IsToldAs status failure

-- the status for a fault of a Maildir: none where there was no memory
abbrev pub maildir_status : ErrorKind → Option Status
maildir_status kind.OutOfMemory = None
maildir_status kind.NotFound = Some NoInput
maildir_status kind.NotADirectory = Some NoInput
maildir_status k = Some TryAgain

-- a failure of a Maildir: one that the system has, with its status, or want of memory
abbrev pub IsOfMaildir : Failure → Type 0
IsOfMaildir failure = (k : ErrorKind) × IsFailureOf (maildir_status k) failure

-- ---- what is answered of a message

-- discarded where no class is captured
abbrev pub taken_of : Capture → Taken
taken_of capture = if length capture.lines.items == 0 then taken.Discarded else taken.Captured

abbrev pub IsGivenUp : Reason → Type 0
IsGivenUp (reason.GivenUp words) = Unit {0}
IsGivenUp reason.NoMemory = Unit {0}
IsGivenUp (reason.Unfit words) = ⊥

-- what is answered where the desk refuses: want of memory, which has no status, lets the message stay; all else ends the intake
abbrev pub IsRefusalBy : Option Status → Refusal Failure → Type 0
IsRefusalBy None (Stays why) = why ≡ reason.NoMemory
IsRefusalBy None (Ends failure) = ⊥
IsRefusalBy (Some status) (Stays why) = ⊥
IsRefusalBy (Some status) (Ends failure) = IsToldAs status failure

abbrev pub IsRefusal : DeskFault → Refusal Failure → Type 0
IsRefusal fault refusal = IsRefusalBy (desk_status fault) refusal

-- A MESSAGE IS TAKEN only where the desk answers that it is captured, and then this is answered of its capture; where it is given up, it
-- stays
abbrev pub IsAnswer : {T : Type 0} → (of : Capture → T) → Result Delivery DeskFault → Result T (Refusal Failure) → Type 0
IsAnswer of (Ok (Captured capture)) (Ok t) = t ≡ of capture
IsAnswer of (Ok (Captured capture)) (Err refusal) = ⊥
IsAnswer of (Ok (GivenUp fault)) (Err (Stays why)) = IsGivenUp why
IsAnswer of (Ok OutOfTime) (Err (Stays why)) = IsGivenUp why
IsAnswer of (Ok (GivenUp fault)) _ = ⊥
IsAnswer of (Ok OutOfTime) _ = ⊥
IsAnswer of (Err fault) (Ok t) = ⊥
IsAnswer of (Err fault) (Err refusal) = IsRefusal fault refusal

-- the fault with which the run over a message ended
abbrev pub fault_of : Delivery → Option RunFault
fault_of (Captured capture) = capture.fault
fault_of (GivenUp fault) = Some fault
fault_of OutOfTime = None

-- ---- how an intake ends

-- THE STATUS of an intake that came to its end: 75 where a message was given up, which another intake may take; 65 where one
-- stays for another reason, or since it has no name; and else that of success
abbrev pub status_after : Tally → (nameless : ℕ) → Option Status
status_after tally nameless =
    if nat_lt 0 tally.given_up then Some TryAgain
    else if nat_lt 0 tally.unfit || nat_lt 0 nameless then Some BadData
    else None

abbrev pub EndsWith : Option Status → Result (Unit {0}) Failure → Type 0
EndsWith None done = is_ok done ≡ true
EndsWith (Some status) done = done ≡ Err (Reported status)

-- AN INTAKE ENDS with the failure with which its last call ended, or with the status of what it did
abbrev pub IsEndOf : End Failure → Option Status → Result (Unit {0}) Failure → Type 0
IsEndOf Done status done = EndsWith status done
IsEndOf (NotCaptured failure) status done = done ≡ Err failure
IsEndOf (NotMoved failure) status done = done ≡ Err failure
IsEndOf (NotSettled failure) status done = done ≡ Err failure

-- ---- rules that are at fault

abbrev pub captures : OnFault → Bool
captures on_fault.Capture = true
captures on_fault.GiveUp = false

-- FAULTY RULES ARE EXCUSED only where they are the officer's own and mail may go to `unfiled` then. Else it may be done later.
abbrev pub IsExcused : RulesFault → OnFault → Result (Unit {0}) Failure → Type 0
IsExcused fault on_fault (Ok done) = (is_of_rules fault ≡ true) × (captures on_fault ≡ true)
IsExcused fault on_fault (Err failure) = IsToldAs TryAgain failure
