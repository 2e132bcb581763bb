-- Destructions, revisions and added classes of small archives, computed.
use Rattle.std.proofs.Common.{◌≡◌, ℕ, true, false, List, [], ◌∷◌, Some, Ok, Err, codes, refl}
use Rattle.class_paths.specs.Path.{is_path, unfiled}
use Rattle.class_plan.specs.declared.schedules.Action.TheVariants.{Destroy, Review}
use Rattle.class_plan.specs.declared.schedules.Unit.TheVariants.{Days}
use Rattle.class_plan.specs.declared.schedules.Schedule.TheVariants.{Permanent, After}
use Rattle.class_plan.specs.declared.faults.PlanFault.TheVariants as plan_fault
use Rattle.class_plan.specs.Plans.{Listing, open_row}
use Rattle.record_archive.specs.Archive.{Record, Message, Archive}
use Rattle.record_archive.specs.Archive as archive
use Rattle.record_adoption.specs.Keeping.{dues_in}
use Rattle.record_store.specs.Revisions.{with_plan}
use Rattle.record_archive.specs.declared.fault.ArchiveRefusal.TheVariants as fault

-- `tax` is destroyed after ten days, `finance` reviewed after five
abbrev plan : Listing
plan = record {
  root = Permanent;
  rows = record { path = codes "finance"; is_open = true; schedule = Some (After 5 Days Review false) }
      ∷ record { path = codes "tax"; is_open = true; schedule = Some (After 10 Days Destroy false) } ∷ open_row unfiled
      ∷ [];
}

abbrev live : ℕ → List ℕ → Record
live n path = record { number = n; message = 1; path = path; day = 100; destroyed = false }

abbrev dead : ℕ → List ℕ → Record
dead n path = record { number = n; message = 1; path = path; day = 100; destroyed = true }

abbrev only : List Message
only = record { number = 1; body = codes "x" } ∷ []

abbrev two : Archive
two = record { plan = plan; messages = only; records = live 1 (codes "tax") ∷ live 2 (codes "tax") ∷ []; holds = [] }

abbrev one : Archive
one = record { plan = plan; messages = only; records = dead 1 (codes "tax") ∷ live 2 (codes "tax") ∷ []; holds = [] }

abbrev none : Archive
none = record { plan = plan; messages = []; records = dead 1 (codes "tax") ∷ dead 2 (codes "tax") ∷ []; holds = [] }

abbrev filed : Archive
filed = record { plan = plan; messages = only; records = live 1 (codes "finance") ∷ live 2 (codes "unfiled") ∷ []; holds = [] }

-- the message stays after the first destruction and is removed with the second
destroyed_are : (archive.destroy two 1 110 ≡ Ok one) × (archive.destroy one 2 110 ≡ Ok none)
    × (archive.destroy two 1 109 ≡ Err fault.NotDue) × (archive.destroy filed 1 200 ≡ Err fault.NotForDestruction)
    × (archive.destroy filed 2 200 ≡ Err fault.NotForDestruction)
destroyed_are = (refl, refl, refl, refl, refl)

-- destroyed records, permanent classes and paths of no class have no due day
dues_are : (dues_in plan (dead 1 (codes "tax") ∷ live 2 (codes "tax") ∷ live 3 (codes "unfiled") ∷ live 4 (codes "gone")
    ∷ live 5 (codes "finance") ∷ [])
    ≡ record { number = 2; day = 110 } ∷ record { number = 5; day = 105 } ∷ [])
dues_are = refl

abbrev with_late : Listing
with_late = record {
  root = Permanent;
  rows = record {
    path = codes "finance";
    is_open = true;
    schedule =
        Some (After 5 Days Review false);
  } ∷ record {
    path = codes "tax";
    is_open = true;
    schedule =
        Some (After 10 Days Destroy false);
  } ∷ open_row (codes "tax/late") ∷ open_row unfiled ∷ [];
}

added_are : (archive.add_class two (codes "tax/late") ≡ Ok (with_plan two with_late))
    × (archive.add_class two (codes "Tax") ≡ Err (fault.Plan plan_fault.BadPath))
    × (archive.add_class two (codes "wage/late") ≡ Err (fault.Plan plan_fault.ParentMissing))
    × (archive.add_class two (codes "tax") ≡ Err (fault.Plan plan_fault.PathTwice))
unfolding is_path
added_are = (refl, refl, refl, refl)
