-- Schedules: the ranges of their counts.
use Rattle.std.specs.Prelude.{ℕ, ◌≤◌, Option, Some, None}
use Rattle.class_plan.specs.declared.schedules.Unit.{Unit as TimeUnit}
use Rattle.class_plan.specs.declared.schedules.Unit.TheVariants.{Days, Months, Years}
use Rattle.class_plan.specs.declared.schedules.Schedule.{Schedule}
use Rattle.class_plan.specs.declared.schedules.Schedule.TheVariants.{Permanent, After}

-- the greatest count of a unit
abbrev pub most : TimeUnit → ℕ
most Days = 366000
most Months = 12000
most Years = 1000

-- the count, if there is one, is in its unit's range
abbrev pub IsInRange : Schedule → Type 0
IsInRange Permanent = Unit {0}
IsInRange (After n u a y) = (1 ≤ n) × (n ≤ most u)

-- the same for a schedule that may be missing
abbrev pub IsInRangeIfAny : Option Schedule → Type 0
IsInRangeIfAny None = Unit {0}
IsInRangeIfAny (Some s) = IsInRange s
