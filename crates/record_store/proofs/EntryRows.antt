-- Lists of records of a small archive, by the definitions.
use Rattle.std.proofs.Common.{◌≡◌, ℕ, [], ◌∷◌, Some, None, take, codes, pos, refl, true, false}
use Rattle.class_paths.specs.Path.{unfiled}
use Rattle.class_plan.specs.declared.schedules.Unit.TheVariants.{Years}
use Rattle.class_plan.specs.declared.schedules.Action.TheVariants.{Destroy}
use Rattle.class_plan.specs.declared.schedules.Schedule.TheVariants.{Permanent, After}
use Rattle.class_plan.specs.Plans.{open_row}
use Rattle.jiff_core.specs.Calendar.{days_from_civil, day_count, days_of_years, days_of_months}
use Rattle.record_archive.specs.Archive.{Record, Archive}
use Rattle.record_choice.specs.Entries.{RecordEntry, entries_from}

-- captured on 2023-11-14, day 19675
abbrev kept : ℕ → Record
kept n = record { number = n; message = 2; path = codes "tax"; day = 19675; destroyed = false }

abbrev some_archive : Archive
some_archive = record {
  plan = record {
    root = Permanent;
    rows =
        record { path = codes "tax"; is_open = true; schedule = Some (After 1 Years Destroy false) } ∷ open_row unfiled ∷ [];
  };
  messages = record { number = 2; body = codes "ab" } ∷ [];
  records = record (kept 1) { message = 1; destroyed = true } ∷ kept 2 ∷ record (kept 3) { path = unfiled } ∷ [];
  holds = record { name = codes "b"; number = 2 } ∷ record { name = codes "case"; number = 3 } ∷ record { name = codes "a"; number = 2 } ∷ [];
}

-- 2024-11-14 is day 20041
abbrev second : RecordEntry
second = record {
  number = 2;
  path = codes "tax";
  day = pos 19675;
  due = Some (pos 20041);
  message = 2;
  destroyed = false;
  holds =
      codes "a" ∷ codes "b" ∷ [];
}

abbrev third : RecordEntry
third = record { number = 3; path = unfiled; day = pos 19675; due = None; message = 2; destroyed = false; holds = codes "case" ∷ [] }

-- a destroyed record has no due day
row_all : entries_from some_archive 0 ≡ record {
  number = 1;
  path = codes "tax";
  day = pos 19675;
  due = None;
  message = 1;
  destroyed = true;
  holds =
      [];
} ∷ second ∷ third ∷ []
unfolding days_from_civil day_count days_of_years days_of_months
row_all = refl

row_from_2 : take 1 (entries_from some_archive 2) ≡ second ∷ []
unfolding days_from_civil day_count days_of_years days_of_months
row_from_2 = refl

row_from_4 : entries_from some_archive 4 ≡ []
row_from_4 = refl
