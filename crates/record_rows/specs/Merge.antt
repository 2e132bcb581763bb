-- Classes with their schedules, from the rows of both.
use Rattle.std.specs.Prelude.{ℕ, ◌==◌, if◌then◌else◌, List, [], ◌∷◌, drop, Option, Some, None}
use Rattle.std.specs.Str.{bytes_eq}
use Rattle.class_plan.specs.declared.schedules.Unit.{Unit as TimeUnit}
use Rattle.class_plan.specs.declared.schedules.Unit.TheVariants.{Days, Months, Years}
use Rattle.class_plan.specs.declared.schedules.Action.{Action}
use Rattle.class_plan.specs.declared.schedules.Action.TheVariants.{Review, Transfer, Destroy}
use Rattle.class_plan.specs.declared.schedules.Schedule.{Schedule}
use Rattle.class_plan.specs.declared.schedules.Schedule.TheVariants.{Permanent, After}
use Rattle.class_plan.specs.Plans.{Row}
use Rattle.record_tables.specs.Changes.{ClassEntry, Rule}

-- the unit of a number, years for any other
abbrev pub unit_at : ℕ → TimeUnit
unit_at n = if n == 1 then Days else if n == 2 then Months else Years

-- the action of a number, destroy for any other
abbrev pub action_at : ℕ → Action
action_at n = if n == 1 then Review else if n == 2 then Transfer else Destroy

-- the schedule of a row, as far as the row is a schedule's
abbrev pub schedule_in : Rule → Schedule
schedule_in r = if r.unit == 0 then Permanent else After r.count (unit_at r.unit) (action_at r.action) (r.year_end == 1)

-- the schedule of the first row, where it has this path
abbrev pub own_in : List Rule → List ℕ → Option Schedule
own_in [] q = None
own_in (r ∷ rs) q = if bytes_eq q r.path then Some (schedule_in r) else None

-- the rows after one that was taken
abbrev pub rest_in : Option Schedule → List Rule → List Rule
rest_in None rs = rs
rest_in (Some s) rs = drop 1 rs

-- the classes, each with the schedule of its path where that comes next
abbrev pub merge : List Rule → List ClassEntry → List Row
merge rs [] = []
merge rs (c ∷ cs) = record { path = c.path; is_open = c.is_open; schedule = own_in rs c.path } ∷ merge (rest_in (own_in rs c.path) rs) cs
