-- A worked session, by the definitions.
use Rattle.std.proofs.Common.{◌≡◌, ℕ, [], ◌∷◌, Some, Ok, Err, codes, pos, refl, true, false}
use Rattle.class_paths.specs.Path.{unfiled}
use Rattle.class_plan.specs.declared.schedules.Unit.TheVariants.{Months, Years}
use Rattle.class_plan.specs.declared.schedules.Action.TheVariants.{Destroy}
use Rattle.class_plan.specs.declared.schedules.Schedule.TheVariants.{Permanent, After}
use Rattle.class_plan.specs.Plans.{Listing, open_row}
use Rattle.jiff_core.specs.Calendar.{days_from_civil, day_count, days_of_years, days_of_months}
use Rattle.record_archive.specs.declared.fault.ArchiveRefusal.TheVariants as fault
use Rattle.class_plan.specs.Calendar.{civil, due_on, due_by}
use Rattle.record_archive.specs.Archive

abbrev plan_of_years : ℕ → Listing
plan_of_years n =
    record {
      root = Permanent;
      rows = record {
        path = codes "tax";
        is_open = true;
        schedule =
            Some (After n Years Destroy false);
      } ∷ open_row unfiled ∷ [];
    }

-- day 19675 is 2023-11-14
day_is : civil 19675 ≡ record { year = 2023; month = 11; day = 14 }
day_is = refl

-- 2024-11-14 is day 20041
due_is : due_on (plan_of_years 1) (codes "tax") 19675 ≡ Some 20041
unfolding days_from_civil day_count days_of_years days_of_months
due_is = refl

abbrev a0 : Archive.Archive
a0 = record { plan = plan_of_years 1; messages = []; records = []; holds = [] }

abbrev tax_record : Rattle.record_archive.specs.Archive.Record
tax_record = record { number = 1; message = 1; path = codes "tax"; day = 19675; destroyed = false }

abbrev a1 : Archive.Archive
a1 = record a0 { messages = record { number = 1; body = [] } ∷ []; records = tax_record ∷ [] }

abbrev a2 : Archive.Archive
a2 = record a1 { holds = record { name = codes "case-7"; number = 1 } ∷ [] }

abbrev a3 : Archive.Archive
a3 = record a1 { plan = plan_of_years 2 }

abbrev a4 : Archive.Archive
a4 = record a3 { messages = []; records = record tax_record { destroyed = true } ∷ [] }

abbrev tax_line : ℕ → Archive.Line
tax_line due = record { number = 1; path = codes "tax"; due = Some (pos due) }

captured_is : (Archive.capture a0 [] 19675 (codes "tax" ∷ []) ≡ Ok a1) × (Archive.capture_lines a0 19675 (codes "tax" ∷ []) ≡ tax_line 20041 ∷ [])
unfolding days_from_civil day_count days_of_years days_of_months
captured_is = (refl, refl)

dues_are : (Archive.due_list a1 20040 ≡ []) × (Archive.due_list a1 20041 ≡ tax_line 20041 ∷ [])
    × (Archive.due_list a2 20041 ≡ []) × (Archive.due_list a3 20406 ≡ tax_line 20406 ∷ [])
unfolding days_from_civil day_count days_of_years days_of_months
dues_are = (refl, refl, refl, refl)

holds_are : (Archive.hold a1 (codes "case-7") 1 ≡ Ok a2) × (Archive.hold a2 (codes "case-7") 1 ≡ Err fault.HoldThere)
    × (Archive.release a2 (codes "case-7") 1 ≡ Ok a1) × (Archive.release a1 (codes "case-7") 1 ≡ Err fault.NoHold)
holds_are = (refl, refl, refl, refl)

destroyed_is : (Archive.destroy a2 1 20041 ≡ Err fault.Held) × (Archive.destroy a3 1 20041 ≡ Err fault.NotDue)
    × (Archive.destroy a3 1 20406 ≡ Ok a4) × (Archive.destroy a4 1 20406 ≡ Err fault.Destroyed)
    × (Archive.destroy a3 3 20406 ≡ Err fault.NoRecord)
unfolding days_from_civil day_count days_of_years days_of_months
destroyed_is = (refl, refl, refl, refl, refl)

revised_is : (Archive.revise a1 (plan_of_years 2) ≡ Ok a3)
    × (Archive.revise a1 (record { root = Permanent; rows = open_row unfiled ∷ [] })
    ≡ Err (fault.Plan Rattle.class_plan.specs.declared.faults.PlanFault.TheVariants.PathDropped))
revised_is = (refl, refl)

-- months: 2024-01-31 and one month is 2024-02-29; years: 2024-02-28 and one year is 2025-02-28, 2024-02-29 too
months_are : (civil 19753 ≡ record { year = 2024; month = 1; day = 31 })
    × (due_by 19753 (After 1 Months Destroy false) ≡ Some 19782)
    × (due_by 19782 (After 1 Years Destroy false) ≡ Some 20147)
unfolding days_from_civil day_count days_of_years days_of_months
months_are = (refl, refl, refl)
