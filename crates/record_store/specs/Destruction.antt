-- Which record may be destroyed, and what its destruction makes of the tables.
use Rattle.std.specs.Prelude.{◌≡◌, ℕ, false, not, if◌then◌else◌, Option, Some, None, Ok}
use Rattle.sqlite.specs.Effect.{Database}
use Rattle.class_plan.specs.Calendar.{due_on}
use Rattle.class_plan.specs.Plans.{Listing, schedule_at}
use Rattle.record_archive.specs.Archive.{Record, Archive, record_at, is_held, is_by_any, destroys, destroy_by, without}
use Rattle.record_tables.specs.Rows.{Tables}
use Rattle.record_tables.specs.Changes.{Turns, TurnsAlone, Always, with_destruction as with_mark, without_due, without_message}
use Rattle.record_archive.specs.declared.fault.ArchiveRefusal.{ArchiveRefusal}
use Rattle.record_archive.specs.declared.fault.ArchiveRefusal.TheVariants as fault

-- a live record that no hold keeps
pub record IsUnheld (a : Archive) (n : ℕ) (r : Record) : Type 0 where
  pub found : record_at a n ≡ Some r
  pub live : r.destroyed ≡ false
  pub free : is_held a n ≡ false

-- the record is live, no hold keeps it, and the command destroys it by the day, if there is one
abbrev pub IsDestroyable : ℕ → Option ℕ → Archive → Record → Type 0
IsDestroyable n day a r = IsUnheld a n r × (destroy_by a n day (record_at a n) ≡ Ok (without a r))

-- the plan's refusal, if any, of the destruction of a record by a day, if there is one
abbrev pub against_destruction : Listing → Option ℕ → Record → Option ArchiveRefusal
against_destruction p day r =
    if not (destroys (schedule_at p r.path)) then Some fault.NotForDestruction
    else if not (is_by_any day (due_on p r.path r.day)) then Some fault.NotDue
    else None

-- without the message, if one is given
abbrev pub without_body : Option ℕ → Tables → Tables
without_body None t = t
without_body (Some m) t = without_message m t

-- the record is destroyed and has no due day, and the message is removed, if one is given
abbrev pub with_destruction : ℕ → Option ℕ → Tables → Tables
with_destruction n last t = without_body last (with_mark n (without_due n t))

abbrev pub IsDestruction : ℕ → Option ℕ → Database → Database → Type 0
IsDestruction n last old new = Turns old new Always (with_destruction n last)

-- the same, and tables of other names keep their rows
abbrev pub IsDestructionAlone : ℕ → Option ℕ → Database → Database → Type 0
IsDestructionAlone n last old new = TurnsAlone old new Always (with_destruction n last)
