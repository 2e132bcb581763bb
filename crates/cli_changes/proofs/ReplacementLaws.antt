-- A plan that replaces that of an archive, by the command of the archive.
use Rattle.std.specs.Prelude.{if◌then◌else◌}
use Rattle.std.proofs.Common.{◌≡◌, Bool, true, false, Result, Ok, Err, OnOk, OnErr, is_ok, refl}
use Rattle.class_plan.specs.Plans.{Listing, keeps}
use Rattle.class_plan.specs.declared.faults.PlanFault.TheVariants.{PathDropped}
use Rattle.record_archive.specs.Archive.{Archive, revise}
use Rattle.record_archive.specs.Calls.{CarriesOut, Keeper, Makes, Quietly}
use Rattle.record_archive.specs.declared.fault.ArchiveFault.{ArchiveFault}
use Rattle.record_archive.specs.declared.fault.ArchiveRefusal.{ArchiveRefusal}
use Rattle.record_archive.specs.declared.fault.ArchiveRefusal.TheVariants as refusal
use Rattle.cli_changes.specs.Replacements.{Replaces, with_plan}
use Rattle.cli_changes.specs.Series.{KeepsAll}

-- an archive that is made where a test holds, and refused where it does not
made_if : (S : Archive → Type 0) (test : Bool) (made : Archive) (refused : ArchiveRefusal) → Makes S (if test then Ok made else Err refused)
    → S made × (test ≡ true)
made_if S true made refused h = (h, refl)
made_if S false made refused h = absurd h

module _ {A X E F : Type 0} (k : Keeper A Archive) (before old new : A) (plan : Listing) where
  -- the plan is replaced where that was carried out
  pub replaces : (told : Result X F) (r : Result X (ArchiveFault E)) → is_ok told ≡ is_ok r
      → CarriesOut k old new (λ a. revise a plan) Quietly r → KeepsAll k before old → OnOk told (Replaces k before new plan)
  replaces (Ok y) (Ok x) same out reads = λ clean a stands.
      made_if (k.stands new) (keeps a.plan plan) (with_plan plan a) (refusal.Plan PathDropped) (out.does clean a (reads.stands a stands)).0
  replaces (Ok y) (Err f) same out reads = absurd cc
  replaces (Err e) r same out reads = tt

  -- and nothing changes where it was refused
  pub keeps_all : (told : Result X F) (r : Result X (ArchiveFault E)) → is_ok told ≡ is_ok r
      → CarriesOut k old new (λ a. revise a plan) Quietly r → KeepsAll k before old → OnErr told (KeepsAll k before new)
  keeps_all (Ok y) r same out reads = tt
  keeps_all (Err e) (Ok x) same out reads = absurd cc
  keeps_all (Err e) (Err f) same out reads = record {
    stands = λ a stands. (out.does a (reads.stands a stands)).0;
    falls = λ clean. reads.falls (out.was_clean clean);
  }
