-- Refilings of a small archive, computed.
use Rattle.std.proofs.Common.{◌≡◌, ℕ, true, false, List, [], ◌∷◌, Some, None, Ok, Err, codes, pos, refl}
use Rattle.class_paths.specs.Path.{unfiled}
use Rattle.class_plan.specs.declared.schedules.Action.TheVariants.{Destroy, Review}
use Rattle.class_plan.specs.declared.schedules.Unit.TheVariants.{Days}
use Rattle.class_plan.specs.declared.schedules.Schedule.TheVariants.{Permanent, After}
use Rattle.class_plan.specs.Plans.{Listing, open_row}
use Rattle.record_archive.specs.Archive as archive
use Rattle.record_archive.specs.Archive.{Record, Archive}
use Rattle.record_archive.specs.Refiling.{refile}
use Rattle.record_archive.specs.declared.fault.ArchiveRefusal.TheVariants as fault

-- `review` is read after five days, `staff` is closed and destroyed after ten, and `unfiled` is permanent
abbrev plan : Listing
plan = record {
  root = Permanent;
  rows = record { path = codes "review"; is_open = true; schedule = Some (After 5 Days Review false) }
      ∷ record { path = codes "staff"; is_open = false; schedule = Some (After 10 Days Destroy false) }
      ∷ open_row unfiled ∷ [];
}

-- records 1 and 2 have one message, captured on day 100
abbrev filed : ℕ → List ℕ → Record
filed n path = record { number = n; message = 1; path = path; day = 100; destroyed = false }

abbrev gone : Record
gone = record { number = 3; message = 3; path = codes "staff"; day = 100; destroyed = true }

abbrev with_first : List ℕ → Archive
with_first path = record {
  plan = plan;
  messages = record { number = 1; body = codes "x" } ∷ [];
  records = filed 1 path ∷ filed 2 (codes "review") ∷ gone ∷ [];
  holds = record { name = codes "case-7"; number = 1 } ∷ [];
}

abbrev line : ℕ → List ℕ → ℕ → archive.Line
line n path due = record { number = n; path = path; due = Some (pos due) }

-- number, message, day and hold stay, and so does the record beside it; there and back again nothing has changed
refiled_are : (refile (with_first (codes "review")) 1 (codes "staff") ≡ Ok (with_first (codes "staff")))
    × (refile (with_first (codes "staff")) 1 (codes "review") ≡ Ok (with_first (codes "review")))
    × (refile (with_first (codes "staff")) 1 (codes "staff") ≡ Ok (with_first (codes "staff")))
refiled_are = (refl, refl, refl)

-- a class that is not there is refused last
refused_are : (refile (with_first (codes "review")) 4 (codes "gone") ≡ Err fault.NoRecord)
    × (refile (with_first (codes "review")) 3 (codes "gone") ≡ Err fault.Destroyed)
    × (refile (with_first (codes "review")) 1 (codes "gone") ≡ Err fault.NoClass)
    × (refile (with_first (codes "review")) 1 (codes "staf") ≡ Err fault.NoClass)
    × (refile (with_first (codes "review")) 1 [] ≡ Err fault.NoClass)
refused_are = (refl, refl, refl, refl, refl)

-- the due day is by the schedule of the new class, from the day of the capture
dues_are : (archive.due_of (with_first (codes "review")) (filed 1 (codes "review")) ≡ Some 105)
    × (archive.due_of (with_first (codes "staff")) (filed 1 (codes "staff")) ≡ Some 110)
    × (archive.due_of (with_first unfiled) (filed 1 unfiled) ≡ None)
    × (archive.due_list (record (with_first (codes "staff")) { holds = [] }) 110
    ≡ line 2 (codes "review") 105 ∷ line 1 (codes "staff") 110 ∷ [])
    × (archive.due_list (record (with_first unfiled) { holds = [] }) 110 ≡ line 2 (codes "review") 105 ∷ [])
dues_are = (refl, refl, refl, refl, refl)

-- in another class a record is destroyed by the schedule of that class, and a hold keeps it as before
destroyed_are : (archive.destroy (with_first (codes "staff")) 1 110 ≡ Err fault.Held)
    × (archive.destroy (record (with_first (codes "review")) { holds = [] }) 1 110 ≡ Err fault.NotForDestruction)
    × (archive.destroy (record (with_first (codes "staff")) { holds = [] }) 1 109 ≡ Err fault.NotDue)
destroyed_are = (refl, refl, refl)
