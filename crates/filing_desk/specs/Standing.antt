-- The states that a desk represents.
use Rattle.std.specs.Prelude.{◌≡◌, ℕ, List, true, Option, Some, None, min}
use Rattle.std.specs.List.{AllByRecursion}
use Rattle.class_plan.specs.Plans.{Listing, has, is_open_in}
use Rattle.filing_image.specs.Program.{Program}
use Rattle.mail_case.specs.Message.{is_among}
use Rattle.filing_machine.specs.Runs.{IsOnRun, Snapshot}
use Rattle.record_archive.specs.Archive.{Archive}
use Rattle.record_archive.specs.Calls.{Keeper}
use Rattle.desk_commands.specs.Pinning.{case_in}
use Rattle.desk_commands.specs.Standing.{Standing, Flight}
use Rattle.desk_flights.specs.Flights.{AreHeld}
use Rattle.desk_officers.specs.Register.{office_of}
use Rattle.filing_desk.specs.declared.desk.Desk.{Desk}

-- the paths that are kept for captures are the open ones of the plan
abbrev pub AreOpenPaths : Option (List (List ℕ)) → Listing → Type 0
AreOpenPaths None p = Unit {0}
AreOpenPaths (Some paths) p = is_among paths ≡ is_open_in p

-- each path that was open at the beginning of a flight is a class of the plan
abbrev pub HasPathsOf : Listing → Flight → Type 0
HasPathsOf p f = (q : List ℕ) → f.at_begin.is_open q ≡ true → has p.rows q ≡ true

-- Its store stands for the archive of the state, its officers represent the office, and its captures hold the flights.
pub record StandsFor {A : Type 0} (keeper : Keeper A Archive) (desk : Desk A) (s : Standing) : Type 0 where
  pub store : keeper.stands desk.store s.office.archive
  pub officers : office_of s.office.archive desk.officers ≡ s.office
  pub flights : AreHeld desk.flights s.flights
  pub last : desk.last ≡ s.last
  pub open_paths : AreOpenPaths desk.open_paths s.office.archive.plan
  pub classes : AllByRecursion (HasPathsOf s.office.archive.plan) s.flights

-- A desk is kept as its archive is.
abbrev pub desk_keeper : {A : Type 0} → Keeper A Archive → Keeper (Desk A) Standing
desk_keeper keeper = record {
  clean = λ desk. keeper.clean desk.store;
  stands = StandsFor keeper;
  remains = keeper.remains;
  may_leave = λ desk. keeper.may_leave desk.store;
  keeps = keeper.keeps;
}

-- a capture in flight is shown by its program, and by a machine that stands on its run after the lesser of its turns
-- and its run's length
abbrev pub IsShownBy : Option Flight → Program → Snapshot → Type 0
IsShownBy None program machine = ⊥
IsShownBy (Some f) program machine = (program ≡ f.pinned) × IsOnRun program (case_in f.at_begin) machine ×
    (machine.steps ≡ min f.granted f.run_length)
