-- The definitions on worked rows.
use Rattle.std.proofs.Common.{◌≡◌, ℕ, Bool, true, false, List, [], ◌∷◌, map, codes, Option, Some, None, Ok, Err, refl}
use Rattle.class_paths.specs.Path.{is_path, ancestors, unfiled}
use Rattle.class_plan.specs.declared.faults.PlanFault.TheVariants.{BadPath, ParentMissing, PathTwice}
use Rattle.class_plan.specs.declared.schedules.Unit.TheVariants.{Days, Months, Years}
use Rattle.class_plan.specs.declared.schedules.Action.TheVariants.{Review, Destroy}
use Rattle.class_plan.specs.declared.schedules.Schedule.{Schedule}
use Rattle.class_plan.specs.declared.schedules.Schedule.TheVariants.{Permanent, After}
use Rattle.class_plan.specs.declared.entries.Stated.TheVariants.{Nothing, Faulty}
use Rattle.jiff_core.specs.Calendar.{days_from_civil, day_count, days_of_years, days_of_months}
use Rattle.class_plan.specs.Calendar.{civil, due_by}
use Rattle.class_plan.specs.Texts.{period_of, schedule_of_bytes}
use Rattle.class_plan.specs.Plans.{Listing, open_row, first_plan, schedule_at, open_paths_of, keeps}
use Rattle.class_plan.specs.Changes.{addition}
use Rattle.class_plan.specs.Entries.{Contents, plan_of}

-- each path, and whether it is well made
abbrev paths : List (List ℕ × Bool)
paths =
    (codes "tax/audit-7", true) ∷
    ([], false) ∷
    (codes "A", false) ∷
    (codes "a//b", false) ∷
    (codes "1/2/3/4/5/6/7/8/9", false) ∷
    []

paths_are : map (λ r. is_path r.0) paths ≡ map (λ r. r.1) paths
unfolding is_path
paths_are = refl

ancestors_are : map ancestors (codes "a/b/c" ∷ codes "ab" ∷ []) ≡ (codes "a/b" ∷ codes "a" ∷ []) ∷ [] ∷ []
ancestors_are = refl

-- each text, and its schedule, if it is well made
abbrev texts : List (List ℕ × Option Schedule)
texts =
    (codes "10 days destroy", Some (After 10 Days Destroy false)) ∷
    (codes "0 days review", None) ∷
    (codes "01 days review", None) ∷
    (codes "366001 days review", None) ∷
    (codes "7 years destroy year-end", Some (After 7 Years Destroy true)) ∷
    (codes "permanent year-end", None) ∷
    (codes "7 years destroy ", None) ∷
    (codes "7 years destroy year-end year-end", None) ∷
    (codes "8 weeks review", None) ∷
    []

schedules_are : map (λ r. schedule_of_bytes r.0) texts ≡ map (λ r. r.1) texts
unfolding schedule_of_bytes period_of
schedules_are = refl

-- a plan: `a` with two years, `a/b` without a schedule of its own, `a/b/c` with ten days, and `ab`
worked : Listing
worked = record {
  root = Permanent;
  rows = record { path = codes "a"; is_open = true; schedule = Some (After 2 Years Review false) }
      ∷ record { path = codes "a/b"; is_open = false; schedule = None }
      ∷ record { path = codes "a/b/c"; is_open = true; schedule = Some (After 10 Days Destroy false) }
      ∷ open_row (codes "ab")
      ∷ open_row unfiled
      ∷ [];
}

-- inherited, its own, not inherited, and no class
schedules_in : map (schedule_at worked) (codes "a/b" ∷ codes "a/b/c" ∷ codes "ab" ∷ codes "b" ∷ [])
    ≡ Some (After 2 Years Review false) ∷ Some (After 10 Days Destroy false) ∷ Some Permanent ∷ None ∷ []
unfolding worked
schedules_in = refl

opened : open_paths_of worked ≡ codes "a" ∷ codes "a/b/c" ∷ codes "ab" ∷ unfiled ∷ []
unfolding worked
opened = refl

dropped : keeps worked first_plan ≡ false
unfolding worked
dropped = refl

-- the smallest of two faults is answered
added : map (addition worked) (codes "x/Y" ∷ codes "a/b" ∷ codes "x/y" ∷ []) ≡ Err BadPath ∷ Err PathTwice ∷ Err ParentMissing ∷ []
unfolding worked is_path
added = refl

-- a file that lists `b` twice under a root that is no schedule
listed_twice : Contents
listed_twice = record {
  root = None;
  entries = record { path = codes "b"; is_open = true; stated = Nothing }
      ∷ record { path = codes "b"; is_open = true; stated = Faulty } ∷ [];
}

twice_first : plan_of listed_twice ≡ Err PathTwice
unfolding listed_twice is_path
twice_first = refl

-- a child before its parent, beside `unfiled`, which is not listed
listed_child_first : Contents
listed_child_first =
    record {
      root = Some Permanent;
      entries = record { path = codes "z/b"; is_open = true; stated = Nothing }
          ∷ record { path = codes "z"; is_open = true; stated = Nothing } ∷ [];
    }

child_first : plan_of listed_child_first
    ≡ Ok (record { root = Permanent; rows = open_row unfiled ∷ open_row (codes "z") ∷ open_row (codes "z/b") ∷ [] })
unfolding listed_child_first is_path
child_first = refl

-- due days: 2023-11-14 is day 19675, 2024-11-14 day 20041, 2030-11-14 day 22232, 2030-12-31 day
-- 22279
dates_are : (civil 19675 ≡ record { year = 2023; month = 11; day = 14 })
    × (civil 20041 ≡ record { year = 2024; month = 11; day = 14 })
    × (civil 22232 ≡ record { year = 2030; month = 11; day = 14 })
    × (civil 22279 ≡ record { year = 2030; month = 12; day = 31 })
dates_are = (refl, refl, refl, refl)

years_are : (due_by 19675 (After 1 Years Destroy false) ≡ Some 20041)
    × (due_by 19675 (After 7 Years Destroy false) ≡ Some 22232)
    × (due_by 19675 (After 7 Years Destroy true) ≡ Some 22279)
unfolding days_from_civil day_count days_of_years days_of_months
years_are = (refl, refl, refl)

-- 2024-01-31 and a month is 2024-02-29, and 2024-12-31 at the year's end
months_are : (civil 19753 ≡ record { year = 2024; month = 1; day = 31 })
    × (due_by 19753 (After 1 Months Review false) ≡ Some 19782)
    × (due_by 19753 (After 1 Months Review true) ≡ Some 20088)
unfolding days_from_civil day_count days_of_years days_of_months
months_are = (refl, refl, refl)

-- 2024-12-31 and a day is 2025-01-01, and 2025-12-31 at the year's end
days_are : (civil 20088 ≡ record { year = 2024; month = 12; day = 31 })
    × (due_by 20088 (After 1 Days Review true) ≡ Some 20453)
    × (civil 20453 ≡ record { year = 2025; month = 12; day = 31 })
unfolding days_from_civil day_count days_of_years days_of_months
days_are = (refl, refl, refl)
