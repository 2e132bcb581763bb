-- Why one more capture of a desk is refused, and how one begins.
use Rattle.std.specs.Prelude.{◌≡◌, ℕ, List, length, Option, Some, None}
use Rattle.jiff_core.specs.declared.civil.date.Date.{Date}
use Rattle.class_plan.specs.Plans.{Listing, is_open_in}
use Rattle.mail_case.specs.Message.{is_among}
use Rattle.filing_image.specs.Program.{Program}
use Rattle.filing_verify.specs.Well.{IsWell}
use Rattle.desk_commands.specs.Faults.{refusal_of}
use Rattle.desk_commands.specs.Scripts.{meanings_of}
use Rattle.desk_commands.specs.Standing.{begin_refusal}
use Rattle.desk_commands.specs.declared.fault.DeskFault.{DeskFault}
use Rattle.desk_flights.specs.Begun.{HoldsBegun}
use Rattle.desk_flights.specs.FlightViews.{FlightView}
use Rattle.desk_officers.specs.Register.{PinsFor, officer_at}
use Rattle.filing_desk.specs.declared.desk.Desk.{Desk}

-- the number that refuses a beginning at a moment, of a message of this size in octets; none where it is allowed
abbrev pub against_begin : {A : Type 0} → Desk A → (moment size : ℕ) → Option ℕ
against_begin desk moment size = begin_refusal (length desk.flights) desk.last moment size

-- the fault is that number, and is shown without an offset
abbrev pub IsNumbered : DeskFault → Option ℕ → Type 0
IsNumbered f n = (n ≡ Some (refusal_of f).number) × ((refusal_of f).offset ≡ None)

-- all of a desk is as it was, except that open paths may be kept
pub record KeepsAll {A : Type 0} (old new : Desk A) : Type 0 where
  pub store : new.store ≡ old.store
  pub officers : new.officers ≡ old.officers
  pub flights : new.flights ≡ old.flights
  pub last : new.last ≡ old.last

-- a new capture of what stands at a desk with this plan, with no step made
pub record IsNewFlight {A : Type 0} (plan : Listing) (desk : Desk A) (officer : List ℕ) (ticket : ℕ) (message : List ℕ) (day : Date)
    (x : FlightView) : Type 0 where
  pub program : Program
  pub paths : List (List ℕ)
  pub open_paths : is_among paths ≡ is_open_in plan
  pub pins : PinsFor (officer_at officer desk.officers.officers) (meanings_of desk.officers.globals) program
  pub well : IsWell program
  pub holds : HoldsBegun ticket program message paths day x
