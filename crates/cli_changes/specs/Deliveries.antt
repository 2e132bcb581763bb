-- What becomes of a message that is delivered.
use Rattle.std.specs.Prelude.{◌≡◌, ℕ, List, [], Bool, true, false, Option, None, Result, Ok, Err}
use Rattle.cli_console.specs.declared.failure.Failure.{Failure}
use Rattle.desk_commands.specs.Standing.{Standing}
use Rattle.desk_commands.specs.declared.fault.DeskFault.{DeskFault}
use Rattle.desk_commands.specs.declared.payload.Payload.{Payload}
use Rattle.desk_commands.specs.declared.payload.Payload.TheVariants as payload
use Rattle.filing_desk.specs.Deliveries.{Delivers}
use Rattle.filing_desk.specs.Standing.{StandsFor, desk_keeper}
use Rattle.filing_desk.specs.declared.deliveries.Delivery.{Delivery}
use Rattle.filing_desk.specs.declared.deliveries.Delivery.TheVariants.{Captured, GivenUp, OutOfTime}
use Rattle.filing_desk.specs.declared.deliveries.OnFault.{OnFault}
use Rattle.filing_desk.specs.declared.desk.Desk.{Desk}
use Rattle.mail_boxes.specs.NoMail.{no_mail}
use Rattle.mail_boxes.specs.declared.judging.NoMail.{NoMail}
use Rattle.mail_intake.specs.declared.mailroom.Refusal.{Refusal}
use Rattle.mail_intake.specs.declared.mailroom.Refusal.TheVariants.{Stays, Ends}
use Rattle.record_archive.specs.Archive.{Archive}
use Rattle.record_archive.specs.Calls.{Keeper}
use Rattle.cli_changes.specs.Desks.{IsDeskOf}
use Rattle.cli_changes.specs.Moments.{IsMomentIn}
use Rattle.cli_changes.specs.Series.{KeepsAll}
use Rattle.cli_changes.specs.declared.moments.Timing.{Timing}
use Rattle.cli_changes.specs.declared.rules.FilingRules.{FilingRules}
use Rattle.cli_changes.specs.declared.time_limit.TimeLimit.{TimeLimit}

-- THE MESSAGE IS CAPTURED, in no class where its rules discard it
abbrev pub is_captured : Delivery → Bool
is_captured (Captured capture) = true
is_captured (GivenUp fault) = false
is_captured OutOfTime = false

-- why what is delivered looks like no message, if it does
abbrev pub no_mail_in : Payload → Option NoMail
no_mail_in (payload.Whole v) = no_mail v.items
no_mail_in payload.TooLong = None
no_mail_in payload.NoMemory = None

module _ {A : Type 0} (keeper : Keeper A Archive) where
  -- A DESK DELIVERED A MESSAGE of these octets at a moment by the program of an officer, within a time of which no contract
  -- says when it is over
  abbrev pub IsDelivered : (desk : Desk A) (officer : List ℕ) (moment : ℕ) (octets : List ℕ) → OnFault → Result Delivery DeskFault
      → (after : Desk A) → Type 0
  IsDelivered desk officer moment octets on_fault done after = (begun : TimeLimit) × (left : TimeLimit)
      × Delivers (desk_keeper keeper) (λ _ _ _. Unit {0}) desk officer moment octets on_fault begun done left after

  -- the captures in flight are dropped
  abbrev pub IsDropped : (desk after : Desk A) → Type 0
  IsDropped desk after = (s : Standing) → StandsFor keeper desk s → StandsFor keeper after (record s { flights = [] })

  -- where a message is refused, what is left of it in flight is dropped if it stays
  abbrev pub IsLeftBy : Refusal Failure → (mid after : Desk A) → Type 0
  IsLeftBy (Stays why) mid after = IsDropped mid after
  IsLeftBy (Ends failure) mid after = after ≡ mid

  abbrev pub IsLeft : {T : Type 0} → Result T (Refusal Failure) → (mid after : Desk A) → Type 0
  IsLeft (Ok t) mid after = after ≡ mid
  IsLeft (Err refusal) mid after = IsLeftBy refusal mid after

  -- so a desk over an archive did by these rules, and this is the archive afterwards
  abbrev pub IsDeliveredTo : FilingRules → (store : A) → (moment : ℕ) (octets : List ℕ) → Delivery → (after : A) → Type 0
  IsDeliveredTo filing store moment octets outcome after = (desk : Desk A) × (done : Desk A) × IsDeskOf keeper filing store desk
      × IsDelivered desk filing.officer.now moment octets filing.on_fault (Ok outcome) done × (after ≡ done.store)

  -- THE SAME AT A MOMENT THAT IS JUDGED by the days of the archive, of which no more was read before
  pub record IsDeliveredAt (timing : Timing) (filing : FilingRules) (store : A) (octets : List ℕ) (outcome : Delivery) (after : A) : Type 0 where
    pub looked : A
    pub reads : KeepsAll keeper store looked
    pub moment : ℕ
    pub judged : IsMomentIn keeper timing store looked moment
    pub delivered : IsDeliveredTo filing looked moment octets outcome after
