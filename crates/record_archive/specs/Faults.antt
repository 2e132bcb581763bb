-- The numbers of an archive's refusals, and which refusals come from elsewhere.
use Rattle.std.specs.Prelude.{◌≡◌, ℕ, Bool, true, false}
use Rattle.class_plan.specs.Faults as plan
use Rattle.record_archive.specs.declared.fault.ArchiveRefusal.{ArchiveRefusal}
use Rattle.record_archive.specs.declared.fault.ArchiveRefusal.TheVariants as archive
use Rattle.record_archive.specs.declared.fault.ArchiveFault.{ArchiveFault}
use Rattle.record_archive.specs.declared.fault.ArchiveFault.TheVariants.{Refused, Database, NoMemory}

abbrev pub number_of : ArchiveRefusal → ℕ
number_of (archive.Plan f) = plan.number_of f
number_of archive.NoClass = 59
number_of archive.NoRecord = 80
number_of archive.Held = 81
number_of archive.NotDue = 82
number_of archive.NotForDestruction = 83
number_of archive.Destroyed = 84
number_of archive.NoHold = 85
number_of archive.HoldThere = 86
number_of archive.Full = 87
number_of archive.NoArchive = 88

-- a refusal that comes from the world and not from the archive: of the database (89), or for no memory (99)
abbrev pub is_trouble : {E : Type 0} → ArchiveFault E → Bool
is_trouble (Refused r) = false
is_trouble (Database e) = true
is_trouble NoMemory = true

-- where the archive itself refuses, this holds of its refusal
abbrev pub WhereRefused : {E : Type 0} → (ArchiveRefusal → Type 0) → ArchiveFault E → Type 0
WhereRefused Holds f = (r : ArchiveRefusal) → f ≡ Refused r → Holds r
