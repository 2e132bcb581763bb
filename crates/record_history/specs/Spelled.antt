-- What can be spelled in a line: moments and days that have a date of four digits, and schedules whose counts are in range.
use Rattle.std.specs.Prelude.{ℕ, ◌≤◌, All}
use Rattle.class_plan.specs.Schedules.{IsInRange, IsInRangeIfAny}
use Rattle.class_plan.specs.Plans.{Listing, Row}
use Rattle.record_history.specs.Events.{Event, Deed}
use Rattle.record_history.specs.Events.{Captured, Held, Released, Destroyed, ClassAdded, PlanReplaced, FoundPlan, FoundMessage, FoundRecord, FoundHold}
use Rattle.record_history.specs.Events.{ReasonsRequired, ReasonsOptional, FindingsAccepted, Refiled, Titled}

-- at most 9999-12-31
abbrev pub IsDay : ℕ → Type 0
IsDay n = n ≤ 2932896

-- at most 9999-12-31T23:59:59Z
abbrev pub IsMoment : ℕ → Type 0
IsMoment m = m ≤ 253402300799

-- the counts of its schedules are in range
pub record HasSchedules (p : Listing) : Type 0 where
  pub root : IsInRange p.root
  pub rows : All (λ (r : Row). IsInRangeIfAny r.schedule) p.rows

abbrev pub IsSpelledDeed : Deed → Type 0
IsSpelledDeed (Captured first seal day filing paths) = IsDay day
IsSpelledDeed (Destroyed n day schedule) = IsDay day × IsInRange schedule
IsSpelledDeed (PlanReplaced p) = HasSchedules p
IsSpelledDeed (FoundPlan p) = HasSchedules p
IsSpelledDeed (FoundRecord r) = IsDay r.day
IsSpelledDeed (Held name n) = Unit {0}
IsSpelledDeed (Released name n) = Unit {0}
IsSpelledDeed (Refiled n path) = Unit {0}
IsSpelledDeed (ClassAdded path) = Unit {0}
IsSpelledDeed (Titled path title basis) = Unit {0}
IsSpelledDeed ReasonsRequired = Unit {0}
IsSpelledDeed ReasonsOptional = Unit {0}
IsSpelledDeed FindingsAccepted = Unit {0}
IsSpelledDeed (FoundMessage n seal) = Unit {0}
IsSpelledDeed (FoundHold name n) = Unit {0}

-- THE EVENT CAN BE SPELLED
pub record IsSpelled (e : Event) : Type 0 where
  pub moment : IsMoment e.moment
  pub deed : IsSpelledDeed e.deed
