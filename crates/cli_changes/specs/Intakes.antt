-- What an intake does at its desk with a message.
use Rattle.std.specs.Prelude.{◌≡◌, ◌⊎◌, ℕ, true, List, length, String, string_bytes, Option, Some, None, is_some, Result, Ok, Err}
use Rattle.std.specs.declared.alloc.Global.{Global}
use Rattle.cli_console.specs.declared.failure.Failure.{Failure}
use Rattle.desk_commands.specs.declared.fault.DeskFault.{DeskFault}
use Rattle.filing_desk.specs.declared.deliveries.Delivery.{Delivery}
use Rattle.mail_intake.specs.declared.mailroom.Refusal.{Refusal}
use Rattle.mail_intake.specs.declared.mailroom.Refusal.TheVariants.{Ends}
use Rattle.mail_intake.specs.declared.mailroom.Taken.{Taken}
use Rattle.mail_intake.specs.declared.mailroom.Taken.TheVariants.{Captured}
use Rattle.record_archive.specs.Archive.{Archive}
use Rattle.record_archive.specs.Calls.{Keeper}
use Rattle.cli_changes.specs.Deliveries.{IsDelivered, IsLeft}
use Rattle.cli_changes.specs.Endings.{IsAnswer, IsOfMaildir, taken_of}
use Rattle.cli_changes.specs.Moments.{IsMomentNow}
use Rattle.cli_changes.specs.Spaces.{with_message}
use Rattle.cli_changes.specs.declared.intake.Intake.{Intake}
use Rattle.cli_changes.specs.declared.intake_room.Room.{Room}
use Rattle.cli_changes.specs.declared.rounds.Round.{Round}
use Rattle.cli_changes.specs.declared.rounds.Rounds.{Rounds}
use Rattle.cli_changes.specs.declared.rounds.Round.TheVariants.{Done, NextVolume}
use Rattle.cli_changes.specs.declared.space.Space.{Space}

-- it captures where it did, and the round goes on as far as it did
pub record IsAtPlace {A : Type 0} (before after : Room A) : Type 0 where
  pub place : after.place ≡ before.place
  pub next : after.next ≡ before.next

-- nothing was done at the desk, nor to what it works by
pub record IsQuiet {A : Type 0} (before after : Room A) : Type 0 where
  pub job : after.job ≡ before.job
  pub desk : after.desk ≡ before.desk
  pub timing : after.timing ≡ before.timing
  pub place : IsAtPlace before after

-- the space that a message leaves: it is counted where it is captured, and not where it is discarded or refused
abbrev pub space_after : {F : Type 0} → Result Taken (Refusal F) → (octets : ℕ) → Space → Space
space_after (Ok Captured) octets s = with_message octets s
space_after _ octets s = s

-- A ROUND BEGINS with what the rounds before it came to, and has not ended
pub record BeginsAfter {A : Type 0} (rounds : Rounds) (room : Room A) : Type 0 where
  pub before : room.before ≡ rounds.tally
  pub told : room.told ≡ rounds.told
  pub has_spoken : room.has_spoken ≡ rounds.has_spoken
  pub has_complained : room.has_complained ≡ rounds.has_complained
  pub next : room.next ≡ None

-- THE NEXT ROUND BEGINS with the message of this name; there is none only where the Maildir, or memory, fails
abbrev pub GoesOnWith : {Z : Type 0} → (name : List ℕ) → Failure → (next : Option (String Z)) → Type 0
GoesOnWith name failure (Some next) = string_bytes next ≡ name
GoesOnWith name failure None = IsOfMaildir failure

-- THE ROUND ENDS where the volume is full: nothing is delivered, and the next round begins with this message
pub record EndsRound {A : Type 0} (before : Room A) (name : List ℕ) (answer : Result Taken (Refusal Failure)) (after : Room A) : Type 0 where
  pub failure : Failure
  pub answered : answer ≡ Err (Ends failure)
  pub desk : after.desk ≡ before.desk
  pub next : GoesOnWith name failure after.next

-- how a round ended: as the last one, or with a next one, which goes on with the same intake and with what the rounds came to
abbrev pub round_of : {A : Type 0} → Room A → (begun : ℕ) → (next : Option (String Global)) → Round Intake Rounds
round_of room begun None = Done
round_of room begun (Some next) = NextVolume room.job (record {
  begun = Some begun;
  tally = room.before;
  next = Some next;
  told = room.told;
  has_spoken = room.has_spoken;
  has_complained = room.has_complained;
})

module _ {A : Type 0} (keeper : Keeper A Archive) where
  -- the desk delivered these octets at a moment that the clock gives, for the officer of the intake
  abbrev pub IsDeliveredNow : Room A → (octets : List ℕ) → Result Delivery DeskFault → Room A → Type 0
  IsDeliveredNow before octets done after = (moment : ℕ) × IsMomentNow before.timing.asked before.timing.last moment
      × IsDelivered keeper before.desk before.job.filing.officer.now moment octets before.job.filing.on_fault done after.desk

  -- A MESSAGE IS HANDED OVER: the desk delivered these octets, once, and this is its answer; or it delivered nothing, for want of a clock
  abbrev pub IsHandedOver : Room A → (octets : List ℕ) → Result Taken (Refusal Failure) → Room A → Type 0
  IsHandedOver before octets answer after =
      ((done : Result Delivery DeskFault) × (mid : Room A) × IsDeliveredNow before octets done mid
      × IsAnswer taken_of done answer × IsLeft keeper answer mid.desk after.desk)
      ⊎ ((failure : Failure) × (answer ≡ Err (Ends failure)) × (after.desk ≡ before.desk))

  -- ELSE A MESSAGE IS HANDED OVER, and counted where it is captured
  pub record TakesOne (before : Room A) (octets : List ℕ) (answer : Result Taken (Refusal Failure)) (after : Room A) : Type 0 where
    pub handed_over : IsHandedOver before octets answer after
    pub space : after.place.space ≡ space_after answer (length octets) before.place.space
    pub next : after.next ≡ before.next

-- ---- rounds

-- an intake began at this moment: at the one that is known from the rounds before, if it is
abbrev pub IsBegun : (before : Option ℕ) → (begun : ℕ) → Type 0
IsBegun None begun = Unit {0}
IsBegun (Some moment) begun = begun ≡ moment

-- A NEXT ROUND GOES ON in the intake that began with the first one, from a message on at which a round ended
abbrev pub GoesOnAfter : Rounds → Round Intake Rounds → Type 0
GoesOnAfter rounds Done = Unit {0}
GoesOnAfter rounds (NextVolume rest next) =
    (begun : ℕ) × (next.begun ≡ Some begun) × IsBegun rounds.begun begun × (is_some next.next ≡ true)
