-- Refusals of an archive, as refusals of a desk.
use Rattle.std.proofs.Common.{◌≡◌, false, None, inl, inr, refl}
use Rattle.class_plan.specs.declared.faults.PlanFault.{PlanFault}
use Rattle.class_plan.specs.declared.faults.PlanFault.TheVariants as plans
use Rattle.class_plan.specs.Faults as plan
use Rattle.record_archive.specs.Faults.{number_of}
use Rattle.record_archive.specs.declared.fault.ArchiveFault.{ArchiveFault}
use Rattle.record_archive.specs.declared.fault.ArchiveFault.TheVariants.{Refused, Database, NoMemory}
use Rattle.record_archive.specs.declared.fault.ArchiveRefusal.{ArchiveRefusal}
use Rattle.record_archive.specs.declared.fault.ArchiveRefusal.TheVariants as archive
use Rattle.desk_commands.specs.Answers.{refused}
use Rattle.desk_commands.specs.Faults.{refused_by, archive_fault, refusal_fault, plan_fault, has_place}
use Rattle.filing_desk.specs.Filing.{IsArchiveFault}

plan_told : (f : PlanFault) → refused_by (plan_fault f) ≡ refused (plan.number_of f) None
plan_told plans.NoMemory = refl
plan_told f = refl

-- a refusal of the archive is answered by its number alone
pub told : (r : ArchiveRefusal) → refused_by (refusal_fault r) ≡ refused (number_of r) None
told (archive.Plan f) = plan_told f
told r = refl

plan_no_place : (f : PlanFault) → has_place (plan.number_of f) ≡ false
plan_no_place plans.NoMemory = refl
plan_no_place f = refl

pub no_place : (r : ArchiveRefusal) → has_place (number_of r) ≡ false
no_place (archive.Plan f) = plan_no_place f
no_place r = refl

plan_fault_told : (f : PlanFault) → IsArchiveFault (plan_fault f)
plan_fault_told plans.NoMemory = inl (99, inl refl, refl)
plan_fault_told f = inr refl

refusal_told : (r : ArchiveRefusal) → IsArchiveFault (refusal_fault r)
refusal_told (archive.Plan f) = plan_fault_told f
refusal_told r = inr refl

-- a fault of an archive is trouble, or a refusal of the archive itself
pub fault_told : {E : Type 0} (f : ArchiveFault E) → IsArchiveFault (archive_fault f)
fault_told NoMemory = inl (99, inl refl, refl)
fault_told (Database e) = inl (89, inr refl, refl)
fault_told (Refused r) = refusal_told r
