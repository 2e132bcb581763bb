-- The definitions on worked rows.
use Rattle.std.proofs.Common.{◌≡◌, true, false, List, [], ◌∷◌, codes, Some, None, refl}
use Rattle.class_paths.specs.Path.{unfiled}
use Rattle.class_plan.specs.declared.schedules.Unit.TheVariants.{Months, Years}
use Rattle.class_plan.specs.declared.schedules.Action.TheVariants.{Review, Destroy}
use Rattle.class_plan.specs.declared.schedules.Schedule.TheVariants.{After}
use Rattle.class_plan.specs.Plans.{Listing, open_row}
use Rattle.record_archive.specs.Archive.{Record}
use Rattle.record_rows.specs.Rules.{rules_of, classes_of}
use Rattle.record_rows.specs.Merge.{merge}
use Rattle.record_rows.specs.SoundRows.{is_named, is_live}

-- a plan of `tax`, destroyed after a year, of `tax/audit`, closed, without a schedule of its own, and of `unfiled`
worked : Listing
worked = record {
  root = After 6 Months Review false;
  rows = record { path = codes "tax"; is_open = true; schedule = Some (After 1 Years Destroy true) }
      ∷ record { path = codes "tax/audit"; is_open = false; schedule = None }
      ∷ open_row unfiled
      ∷ [];
}

schedules_are : rules_of worked ≡ record { path = []; count = 6; unit = 2; action = 1; year_end = 0 }
    ∷ record { path = codes "tax"; count = 1; unit = 3; action = 3; year_end = 1 } ∷ []
unfolding worked
schedules_are = refl

classes_are : classes_of worked ≡ record { path = codes "tax"; is_open = true; schedule = None }
    ∷ record { path = codes "tax/audit"; is_open = false; schedule = None } ∷ record {
      path = unfiled;
      is_open = true;
      schedule = None;
    } ∷ []
unfolding worked
classes_are = refl

merged_is : merge (record { path = codes "tax"; count = 1; unit = 3; action = 3; year_end = 1 } ∷ []) (classes_of worked) ≡ worked.rows
unfolding worked
merged_is = refl

-- two records of message 1, of which the first is destroyed
records : List Record
records = record { number = 1; message = 1; path = codes "tax"; day = 19675; destroyed = true }
    ∷ record { number = 2; message = 1; path = unfiled; day = 19675; destroyed = false }
    ∷ []

named_are : (is_named records 1 ≡ true) × (is_named records 2 ≡ false) × (is_live records 1 ≡ false) × (is_live records 2 ≡ true)
unfolding records
named_are = (refl, refl, refl, refl)
