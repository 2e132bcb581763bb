-- A record that gets another class of the plan.
use Rattle.std.specs.Prelude.{ℕ, not, if◌then◌else◌, List, map, Option, Some, None, Result, Ok, Err}
use Rattle.class_plan.specs.Plans.{has}
use Rattle.record_archive.specs.Archive.{Record, Archive, record_at, has_number}
use Rattle.record_archive.specs.declared.fault.ArchiveRefusal.{ArchiveRefusal}
use Rattle.record_archive.specs.declared.fault.ArchiveRefusal.TheVariants as refusal

-- the record in another class
abbrev pub in_class : List ℕ → Record → Record
in_class q r = record r { path = q }

-- The record of this number is in another class; the plan, the messages, the holds and all other records stay. A due day
-- is one of the class and of the day of the capture, so it is that by the schedule of the new class.
abbrev pub refiled : Archive → ℕ → List ℕ → Archive
refiled a n q = record a { records = map (λ r. if has_number n r then in_class q r else r) a.records }

abbrev pub refile_one : Archive → ℕ → List ℕ → Option Record → Result Archive ArchiveRefusal
refile_one a n q None = Err refusal.NoRecord
refile_one a n q (Some r) =
    if r.destroyed then Err refusal.Destroyed
    else if not (has a.plan.rows q) then Err refusal.NoClass
    else Ok (refiled a n q)

-- another class for a live record; a closed one too, since a closed class is one to which mail is not filed
abbrev pub refile : Archive → ℕ → List ℕ → Result Archive ArchiveRefusal
refile a n q = refile_one a n q (record_at a n)
