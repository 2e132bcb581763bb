-- What captures and the flights that they hold have in common.
use Rattle.std.specs.Prelude.{◌≡◌, ℕ, List, length, true, All}
use Rattle.class_plan.specs.Plans.{IsPlan, Listing, has, is_open_in}
use Rattle.record_archive.specs.Archive.{AreClasses}
use Rattle.mail_case.specs.Message.{is_among}
use Rattle.desk_commands.specs.Standing.{Flight}
use Rattle.desk_flights.specs.FlightViews.{FlightView, IsOpenAtBegin}
use Rattle.desk_flights.specs.Flights.{AreHeld}

-- there are as many captures as flights that they hold
abbrev pub AreAsMany : Type 0
AreAsMany = (xs : List FlightView) (fs : List Flight) → AreHeld xs fs → length xs ≡ length fs

-- an open path is a class of the plan
abbrev pub OpenPathsAreClasses : Type 0
OpenPathsAreClasses = (p : Listing) (q : List ℕ) → is_open_in p q ≡ true → has p.rows q ≡ true

-- the plan has each path that was open at the beginning of a capture
abbrev pub HasOpen : FlightView → Listing → Type 0
HasOpen x p = (q : List ℕ) → is_among x.case.paths q ≡ true → has p.rows q ≡ true

-- the classes of a capture are classes of each plan that has all paths that were open at its beginning
abbrev pub CapturesHaveClasses : Type 0
CapturesHaveClasses = (x : FlightView) (p : Listing) (classes : List (List ℕ)) → IsPlan p → HasOpen x p
    → All (IsOpenAtBegin x) classes → AreClasses p classes
