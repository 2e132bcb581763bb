-- Another plan for an archive, the due days by it, and a class that is added.
use Rattle.std.specs.Prelude.{◌≡◌, ℕ, List, true, false, None}
use Rattle.sqlite.specs.Effect.{Database}
use Rattle.class_plan.specs.Calendar.{due_on}
use Rattle.class_plan.specs.Plans.{Listing, keeps}
use Rattle.class_plan.specs.declared.faults.PlanFault.TheVariants.{PathDropped}
use Rattle.record_archive.specs.Archive.{Record, Archive}
use Rattle.record_tables.specs.Rows.{Due}
use Rattle.record_tables.specs.Changes.{Turns, TurnsAlone, Always, with_class}
use Rattle.record_adoption.specs.Keeping.{dues_in}
use Rattle.record_archive.specs.declared.fault.ArchiveRefusal.{ArchiveRefusal}
use Rattle.record_archive.specs.declared.fault.ArchiveRefusal.TheVariants.{Plan}

-- the archive with another plan
abbrev pub with_plan : Archive → Listing → Archive
with_plan a p = record a { plan = p }

-- a plan that drops no path of an archive's plan, and the due days by it
pub record IsRevision (a : Archive) (p : Listing) (ds : List Due) : Type 0 where
  pub kept : keeps a.plan p ≡ true
  pub dues : ds ≡ dues_in p a.records

-- the new plan drops a path of the old one, and that is the refusal
abbrev pub RefusesDrop : (old new : Listing) → ArchiveRefusal → Type 0
RefusesDrop old new f = (keeps old new ≡ false) × (f ≡ Plan PathDropped)

-- the due day of the record is the same by both plans
abbrev pub HasSameDue : (old new : Listing) → Record → Type 0
HasSameDue old new r = due_on new r.path r.day ≡ due_on old r.path r.day

-- an open class without a schedule of its own is added
abbrev pub IsClassAdded : List ℕ → Database → Database → Type 0
IsClassAdded path old new = Turns old new Always (with_class path true None)

-- the same, and tables of other names keep their rows
abbrev pub IsClassAddedAlone : List ℕ → Database → Database → Type 0
IsClassAddedAlone path old new = TurnsAlone old new Always (with_class path true None)
