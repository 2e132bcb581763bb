-- Plans from parts: the root's schedule, and for each class its path, whether it is open, and its
-- own schedule, if it has one.
use Rattle.std.specs.Prelude.{ℕ, nat_le, Bool, true, not, ◌&&◌, if◌then◌else◌, List, map, Option, Some, None, option_map, Vec, Result}
use Rattle.std.specs.Str.{bytes_eq}
use denote.Ref.{Bor}
use Rattle.std.specs.List.{list_any}
use Rattle.std.specs.declared.alloc.Global.{Global}
use Rattle.class_paths.specs.Path.{unfiled}
use Rattle.class_plan.specs.declared.faults.PlanFault.{PlanFault}
use Rattle.class_plan.specs.declared.faults.PlanFault.TheVariants.{BadShape}
use Rattle.class_plan.specs.declared.schedules.Schedule.{Schedule}
use Rattle.class_plan.specs.declared.schedules.Schedule.TheVariants.{Permanent, After}
use Rattle.class_plan.specs.Faults.{verdict}
use Rattle.class_plan.specs.Schedules.{most}
use Rattle.class_plan.specs.Plans.{Row, Listing}
use Rattle.class_plan.specs.Entries.{Entry, Contents, stated_if, contents_faults, listing_of}

-- a class's part
abbrev pub Part : Type 0
Part = Vec ℕ Global × Bool × Option Schedule

-- the count, if there is one, is in its unit's range
abbrev pub in_range : Schedule → Bool
in_range Permanent = true
in_range (After n u a y) = nat_le 1 n && nat_le n (most u)

abbrev pub if_in_range : Schedule → Option Schedule
if_in_range s = if in_range s then Some s else None

-- the class that a part lists
abbrev pub part_entry : Part → Entry
part_entry p = record { path = p.0.items; is_open = p.1; stated = stated_if (option_map if_in_range p.2) }

abbrev pub parts_contents : Schedule → List Part → Contents
parts_contents root ps = record { root = if_in_range root; entries = map part_entry ps }

-- `unfiled`, closed
abbrev pub is_closed_unfiled : Entry → Bool
is_closed_unfiled e = bytes_eq e.path unfiled && not e.is_open

-- the faults of parts
abbrev pub parts_faults : Contents → PlanFault → Bool
parts_faults f BadShape = list_any is_closed_unfiled f.entries
parts_faults f g = contents_faults f g

-- the plan of its parts, or the fault with the smallest number
abbrev pub plan_of_parts : Contents → Result Listing PlanFault
plan_of_parts f = verdict (parts_faults f) (listing_of f)

-- a class as `Plan::classes` answers it
abbrev pub ClassAnswer : Type 0
ClassAnswer = Bor (List ℕ) × Bool × Option Schedule

abbrev pub answer_row : ClassAnswer → Row
answer_row c = record { path = c.0.now; is_open = c.1; schedule = c.2 }

-- the class that a part shows
abbrev pub part_row : Part → Row
part_row p = record { path = p.0.items; is_open = p.1; schedule = p.2 }
