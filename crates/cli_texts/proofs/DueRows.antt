-- Due days by a plan, worked.
use Rattle.std.proofs.Common.{◌≡◌, ◌∷◌, [], codes, pos, negsuc, refl, true, false, Some, None}
use Rattle.jiff_core.specs.Calendar.{days_from_civil, day_count, days_of_years, days_of_months}
use Rattle.class_plan.specs.declared.schedules.Unit.TheVariants.{Days, Years}
use Rattle.class_plan.specs.declared.schedules.Action.TheVariants.{Destroy}
use Rattle.class_plan.specs.declared.schedules.Schedule.TheVariants.{Permanent, After}
use Rattle.class_plan.specs.Plans.{Listing, open_row}
use Rattle.cli_texts.specs.DueDays.{due_by_plan}

worked : Listing
worked = record {
  root = Permanent;
  rows = record { path = codes "a"; is_open = true; schedule = Some (After 7 Years Destroy false) }
      ∷ record { path = codes "b"; is_open = false; schedule = Some (After 1 Days Destroy false) }
      ∷ open_row (codes "c")
      ∷ [];
}

-- 2023-11-14 and seven years
seven_years : due_by_plan worked (codes "a") (pos 19675) ≡ Some 22232
unfolding worked days_from_civil day_count days_of_years days_of_months
seven_years = refl

last_day_of_captures : due_by_plan worked (codes "b") (pos 84005) ≡ Some 84006
unfolding worked
last_day_of_captures = refl

day_after_it : due_by_plan worked (codes "b") (pos 84006) ≡ None
unfolding worked
day_after_it = refl

day_before_1970 : due_by_plan worked (codes "b") (negsuc 0) ≡ None
unfolding worked
day_before_1970 = refl

permanent_class : due_by_plan worked (codes "c") (pos 19675) ≡ None
unfolding worked
permanent_class = refl

no_class : due_by_plan worked (codes "d") (pos 19675) ≡ None
unfolding worked
no_class = refl
