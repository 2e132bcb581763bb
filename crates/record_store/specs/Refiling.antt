-- Which record may get another class, and what that makes of the tables.
use Rattle.std.specs.Prelude.{◌≡◌, ℕ, List, true, false, Option, Some, None}
use Rattle.sqlite.specs.Effect.{Database}
use Rattle.class_plan.specs.Calendar.{due_on}
use Rattle.class_plan.specs.Plans.{Listing, has}
use Rattle.record_archive.specs.Archive.{Record, Archive, record_at}
use Rattle.record_tables.specs.Rows.{Tables}
use Rattle.record_tables.specs.Changes.{TurnsAlone, Turns, Always, with_due_placed, with_path, without_due}
use Rattle.record_archive.specs.declared.fault.ArchiveRefusal.{ArchiveRefusal}
use Rattle.record_archive.specs.declared.fault.ArchiveRefusal.TheVariants.{NoClass}

-- a live record and a class of the plan, by which it is due on this day, if at all
pub record IsRefiling (a : Archive) (n : ℕ) (q : List ℕ) (due : Option ℕ) : Type 0 where
  pub at : Record
  pub found : record_at a n ≡ Some at
  pub live : at.destroyed ≡ false
  pub class : has a.plan.rows q ≡ true
  pub due_is : due ≡ due_on a.plan q at.day

-- the path is no class of the plan, and that is the refusal
abbrev pub LacksClass : Listing → List ℕ → ArchiveRefusal → Type 0
LacksClass p q f = (has p.rows q ≡ false) × (f ≡ NoClass)

-- with the due day of the record, if there is one
abbrev pub with_due_if : ℕ → Option ℕ → Tables → Tables
with_due_if n None t = t
with_due_if n (Some day) t = with_due_placed (record { number = n; day = day }) t

-- the record has this path and, in place of its due day, this one, if there is one
abbrev pub with_refiling : ℕ → List ℕ → Option ℕ → Tables → Tables
with_refiling n q due t = with_path n q (with_due_if n due (without_due n t))

abbrev pub IsRefilingOf : ℕ → List ℕ → Option ℕ → Database → Database → Type 0
IsRefilingOf n q due old new = Turns old new Always (with_refiling n q due)

-- the same, and tables of other names keep their rows
abbrev pub IsRefilingAlone : ℕ → List ℕ → Option ℕ → Database → Database → Type 0
IsRefilingAlone n q due old new = TurnsAlone old new Always (with_refiling n q due)
