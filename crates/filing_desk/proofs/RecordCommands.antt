-- Calls of a desk about one record.
use Rattle.std.proofs.Common.{◌≡◌, ◌≤◌, ◌^◌, ℕ, List, Option, Result, Ok, Err, refl, ap, sym, ◌∙◌, subst}
use Rattle.class_plan.specs.Plans.{Listing}
use Rattle.record_archive.specs.Archive as archives
use Rattle.record_archive.specs.Archive.{Archive, IsArchive}
use Rattle.record_archive.specs.Calls.{CarriesOut, Keeper, Quietly}
use Rattle.record_archive.specs.declared.fault.ArchiveFault.{ArchiveFault}
use Rattle.record_archive.specs.declared.fault.ArchiveRefusal.{ArchiveRefusal}
use Rattle.record_archive.specs.declared.fault.ArchiveRefusal.TheVariants.{NoRecord}
use Rattle.desk_commands.specs.Answers.{Answer, done}
use Rattle.desk_commands.specs.Calls.{Calls}
use Rattle.desk_commands.specs.Faults.{refused_by, refusal_fault, archive_fault}
use Rattle.desk_commands.specs.Office.{PlainCommand, hold, release, destroy}
use Rattle.desk_commands.specs.Standing.{plain}
use Rattle.filing_desk.specs.Standing.{AreOpenPaths, StandsFor, desk_keeper}
use Rattle.filing_desk.specs.declared.desk.Desk.{Desk}
use Rattle.filing_desk.proofs.ClassLemmas.{destroy_stays, hold_stays, release_stays, same_keeps}
use Rattle.filing_desk.proofs.NumberLemmas.{no_destruction, no_hold, no_release}
use Rattle.filing_desk.proofs.StepLemmas.{IsCommand, KeepsRest, done_by, refused_by_number, refused_by_archive}

-- The commands, by the number of the record, are these of the archive. They keep the plan, and no record has a number
-- above 32 bits.
pub record IsOfRecord (c : ℕ → PlainCommand) (command : ℕ → Archive → Result Archive ArchiveRefusal) : Type 0 where
  pub is : (n : ℕ) → IsCommand (c n) (command n)
  pub stays : (n : ℕ) (a b : Archive) → command n a ≡ Ok b → b.plan ≡ a.plan
  pub none : (n : ℕ) (a : Archive) → IsArchive a → 2 ^ 32 ≤ n → command n a ≡ Err NoRecord

pub holds : (name : List ℕ) → IsOfRecord (hold name) (λ n a. archives.hold a name n)
holds name = record {
  is = λ n. record {
    for_archive = refl;
    settles = λ s new h. h;
    refuses = λ s m h. h;
    gives_up = λ s m h. h;
    keeps =
        λ a b made q. same_keeps a b q (hold_stays a b name n made);
  };
  stays = λ n a b made. hold_stays a b name n made;
  none = λ n a is large. no_hold a name n is large;
}

pub releases : (name : List ℕ) → IsOfRecord (release name) (λ n a. archives.release a name n)
releases name = record {
  is = λ n. record {
    for_archive = refl;
    settles = λ s new h. h;
    refuses = λ s m h. h;
    gives_up = λ s m h. h;
    keeps =
        λ a b made q. same_keeps a b q (release_stays a b name n made);
  };
  stays = λ n a b made. release_stays a b name n made;
  none = λ n a is large. no_release a name n is large;
}

pub destroys : (day : ℕ) → IsOfRecord (λ n. destroy n day) (λ n a. archives.destroy a n day)
destroys day = record {
  is = λ n. record {
    for_archive = refl;
    settles = λ s new h. h;
    refuses = λ s m h. h;
    gives_up = λ s m h. h;
    keeps =
        λ a b made q. same_keeps a b q (destroy_stays a b n day made);
  };
  stays = λ n a b made. destroy_stays a b n day made;
  none = λ n a is large. no_destruction a n day is large;
}

module _ {A : Type 0} (keeper : Keeper A Archive) (c : ℕ → PlainCommand) (command : ℕ
    → Archive → Result Archive ArchiveRefusal) (of : IsOfRecord c command) where
  -- the number has more than 32 bits
  pub number_refused : ((x : A) (a : Archive) → keeper.stands x a → IsArchive a)
      → (desk : Desk A) (n : ℕ) (r : ArchiveRefusal) (a : Answer) → (r ≡ NoRecord) × (2 ^ 32 ≤ n)
      → a ≡ refused_by (refusal_fault r) → Calls (desk_keeper keeper) desk (plain (c n)) a desk
  number_refused is_archive desk n r a large told =
      refused_by_number keeper is_archive desk (c n) (command n) r a (of.is n) (λ x is. of.none n x is large.1
      ∙ ap (λ e. Err e) (sym large.0)) told

  -- the archive refuses, or its database or the memory does
  pub record_refused : {E : Type 0} (old new : Desk A) (n asked : ℕ) (f : ArchiveFault E) (a : Answer) → n ≡ asked
      → KeepsRest keeper old new → new.open_paths ≡ old.open_paths
      → CarriesOut {X = Unit {0}} {E = E} keeper old.store new.store (command n) Quietly (Err f)
      → a ≡ refused_by (archive_fault f) → Calls (desk_keeper keeper) old (plain (c asked)) a new
  record_refused old new n asked f a same rest paths call told =
      let P : ℕ → Type 0 = λ m. Calls (desk_keeper keeper) old (plain (c m)) a new in
      subst P same (refused_by_archive keeper old new (c n) (command n) f a (of.is n) rest paths call told)

  pub record_done : {E : Type 0} (old new : Desk A) (n asked : ℕ) → n ≡ asked → KeepsRest keeper old new
      → new.open_paths ≡ old.open_paths
      → CarriesOut {X = Unit {0}} {E = E} keeper old.store new.store (command n) Quietly (Ok tt)
      → Calls (desk_keeper keeper) old (plain (c asked)) done new
  record_done old new n asked same rest paths call =
      let P : ℕ → Type 0 = λ m. Calls (desk_keeper keeper) old (plain (c m)) done new in
      subst P same
      (done_by keeper old new (c n) (command n) (of.is n) rest
      (λ a b made there. let P : Listing → Type 0 = λ p. AreOpenPaths old.open_paths p in let Q : Option (List (List ℕ))
      → Type 0 = λ x. AreOpenPaths x b.plan in subst Q (sym paths) (subst P (sym (of.stays n a b made)) there))
      call)
