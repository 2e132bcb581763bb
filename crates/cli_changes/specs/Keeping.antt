-- Whether a new plan keeps less than the present one.
use Rattle.std.specs.Prelude.{ℕ, ◌&&◌, ◌||◌, not, nat_le, Bool, true, false, List, Option, Some, None}
use Rattle.std.specs.List.{list_any}
use Rattle.class_plan.specs.Plans.{Listing, Row, schedule_at}
use Rattle.class_plan.specs.declared.schedules.Schedule.{Schedule}
use Rattle.class_plan.specs.declared.schedules.Schedule.TheVariants.{Permanent, After}
use Rattle.class_plan.specs.declared.schedules.Unit as units
use Rattle.class_plan.specs.declared.schedules.Unit.TheVariants.{Days, Months, Years}
use Rattle.record_archive.specs.Archive.{destroys}

abbrev pub is_same_unit : units.Unit → units.Unit → Bool
is_same_unit Days Days = true
is_same_unit Months Months = true
is_same_unit Years Years = true
is_same_unit u v = false

-- what one schedule sets is due no later than what the other does: by the same unit, no more of them, and at the end of the
-- year only where the other is too
abbrev pub is_no_longer : Schedule → Schedule → Bool
is_no_longer Permanent t = false
is_no_longer (After c u a y) Permanent = true
is_no_longer (After c u a y) (After d v b z) = is_same_unit u v && (nat_le c d && (not y || z))

abbrev pub is_no_longer_if_any : Option Schedule → Option Schedule → Bool
is_no_longer_if_any (Some s) (Some t) = is_no_longer s t
is_no_longer_if_any (Some s) None = false
is_no_longer_if_any None t = false

-- KEPT LESS: the new schedule destroys, and the present one does not, or may do so later
abbrev pub is_kept_less : (present new : Option Schedule) → Bool
is_kept_less present new = destroys new && not (destroys present && is_no_longer_if_any present new)

-- A NEW PLAN KEEPS LESS: some class of the present plan
abbrev pub keeps_less : (present new : Listing) → Bool
keeps_less present new = list_any (λ (r : Row). is_kept_less (schedule_at present r.path) (schedule_at new r.path)) present.rows
