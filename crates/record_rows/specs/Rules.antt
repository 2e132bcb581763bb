-- The rows of a plan: one for each class, and one for each schedule.
use mathlib.Core.Bool.{beq}
use Rattle.std.specs.Prelude.{◌≡◌, ℕ, ◌==◌, Bool, true, false, ◌&&◌, List, [], ◌∷◌, map, Option, Some, None, is_none}
use Rattle.std.specs.Str.{bytes_eq}
use Rattle.class_plan.specs.declared.schedules.Unit.{Unit as TimeUnit}
use Rattle.class_plan.specs.declared.schedules.Unit.TheVariants.{Days, Months, Years}
use Rattle.class_plan.specs.declared.schedules.Action.{Action}
use Rattle.class_plan.specs.declared.schedules.Action.TheVariants.{Review, Transfer, Destroy}
use Rattle.class_plan.specs.declared.schedules.Schedule.{Schedule}
use Rattle.class_plan.specs.declared.schedules.Schedule.TheVariants.{Permanent, After}
use Rattle.class_plan.specs.Plans.{Row, Listing, IsPlan}
use Rattle.class_plan.specs.Parts.{ClassAnswer, answer_row}
use Rattle.record_tables.specs.Changes.{ClassEntry, Rule}

abbrev pub unit_number : TimeUnit → ℕ
unit_number Days = 1
unit_number Months = 2
unit_number Years = 3

abbrev pub action_number : Action → ℕ
action_number Review = 1
action_number Transfer = 2
action_number Destroy = 3

abbrev pub flag : Bool → ℕ
flag false = 0
flag true = 1

abbrev pub count_in : Schedule → ℕ
count_in Permanent = 0
count_in (After n u a y) = n

abbrev pub unit_in : Schedule → ℕ
unit_in Permanent = 0
unit_in (After n u a y) = unit_number u

abbrev pub action_in : Schedule → ℕ
action_in Permanent = 0
action_in (After n u a y) = action_number a

abbrev pub year_end_in : Schedule → ℕ
year_end_in Permanent = 0
year_end_in (After n u a y) = flag y

-- the row of the schedule of a path, whose numbers are all 0 where it is permanent
abbrev pub rule_at : List ℕ → Schedule → Rule
rule_at q s = record { path = q; count = count_in s; unit = unit_in s; action = action_in s; year_end = year_end_in s }

-- the row of a class's own schedule, if it has one, before others
abbrev pub with_own : List ℕ → Option Schedule → List Rule → List Rule
with_own q None rules = rules
with_own q (Some s) rules = rule_at q s ∷ rules

-- the rows of the classes' own schedules, in the order of the classes
abbrev pub own_rules : List Row → List Rule
own_rules [] = []
own_rules (r ∷ rs) = with_own r.path r.schedule (own_rules rs)

-- the rows of a plan's schedules: that of the root has the empty path
abbrev pub rules_of : Listing → List Rule
rules_of p = rule_at [] p.root ∷ own_rules p.rows

-- the row of a class
abbrev pub entry_of_row : Row → ClassEntry
entry_of_row r = record { path = r.path; is_open = r.is_open; schedule = None }

-- the rows of a plan's classes, in byte order of the paths
abbrev pub classes_of : Listing → List ClassEntry
classes_of p = map entry_of_row p.rows

-- the rows are those of the plan
pub record HasRows (p : Listing) (rules : List Rule) (classes : List ClassEntry) : Type 0 where
  pub same_rules : rules_of p ≡ rules
  pub same_classes : classes_of p ≡ classes

-- no plan has these rows
abbrev pub HasNoPlan : List Rule → List ClassEntry → Type 0
HasNoPlan rules classes = (p : Listing) → IsPlan p → HasRows p rules classes → ⊥

-- ---- comparisons

abbrev pub same_rule : Rule → Rule → Bool
same_rule a b = bytes_eq a.path b.path && (a.count == b.count) && (a.unit == b.unit) && (a.action == b.action) &&
    (a.year_end == b.year_end)

-- the same class, and the second row states no schedule
abbrev pub same_class : ClassEntry → ClassEntry → Bool
same_class a b = bytes_eq a.path b.path && beq a.is_open b.is_open && is_none b.schedule

-- the row of a class, as a plan answers it
abbrev pub answer_entry : ClassAnswer → ClassEntry
answer_entry c = entry_of_row (answer_row c)
