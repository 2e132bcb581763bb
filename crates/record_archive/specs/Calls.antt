-- Calls on an archive that is kept somewhere. What is kept stands for an archive, and is clean while what is read is
-- what was written.
use Rattle.std.specs.Prelude.{◌≡◌, ◌⊎◌, Result, Ok, Err, OnOk}
use Rattle.record_archive.specs.Archive.{Archive}
use Rattle.record_archive.specs.Faults.{WhereRefused}
use Rattle.record_archive.specs.declared.fault.ArchiveFault.{ArchiveFault}
use Rattle.record_archive.specs.declared.fault.ArchiveRefusal.{ArchiveRefusal}

-- What keeps an archive: while it is clean, what is read is what was written; the states K that it stands for, such as
-- archives; what a crash at this moment may leave; and the archive that an opening finds in what a crash has left.
pub record Keeper (A K : Type 0) : Type 1 where
  pub clean : A → Type 0
  pub stands : A → K → Type 0
  pub remains : Type 0
  pub may_leave : A → remains → Type 0
  pub keeps : remains → Archive → Type 0

-- a command makes an archive, and this holds of it
abbrev pub Makes : (Archive → Type 0) → Result Archive ArchiveRefusal → Type 0
Makes Holds (Ok a) = Holds a
Makes Holds (Err r) = ⊥

-- Where a call succeeds, what is kept stands for the archive that the command makes, and the answer is right. Where it is
-- refused, it stands for the same archive, and a refusal by the archive is that of the command.
abbrev pub Does : {A X E : Type 0} → Keeper A Archive → (old new : A) → (Archive → Result Archive ArchiveRefusal) → (Archive → X → Type 0) → Result X (ArchiveFault E) → Type 0
Does k old new command Answers (Ok x) =
    k.clean new → (a : Archive) → k.stands old a → Makes (k.stands new) (command a) × Answers a x
Does k old new command Answers (Err f) =
    (a : Archive) → k.stands old a → k.stands new a × (k.clean new → WhereRefused (λ r. command a ≡ Err r) f)

-- what a crash has left keeps the archive that the command makes
abbrev pub KeepsMade : {I : Type 0} → (keeps : I → Archive → Type 0) → I → Result Archive ArchiveRefusal → Type 0
KeepsMade keeps image made = (b : Archive) × (made ≡ Ok b) × keeps image b

-- A call carries out a command of the archive. What is clean after it was clean before. What a crash may leave after it
-- is what a crash might have left before, or keeps the archive that the command makes; and where the call succeeds, it
-- keeps that archive.
pub record CarriesOut {A X E : Type 0} (k : Keeper A Archive) (old new : A) (command : Archive → Result Archive ArchiveRefusal)
    (Answers : Archive → X → Type 0) (result : Result X (ArchiveFault E)) : Type 0 where
  pub was_clean : k.clean new → k.clean old
  pub does : Does k old new command Answers result
  pub crash : k.clean new → (a : Archive) → k.stands old a → (image : k.remains) → k.may_leave new image →
      k.may_leave old image ⊎ KeepsMade k.keeps image (command a)
  pub kept : OnOk result (k.clean new → (a : Archive) → k.stands old a → (image : k.remains) → k.may_leave new image →
      KeepsMade k.keeps image (command a))

-- the answer of a call that says no more than that it is done
abbrev pub Quietly : {X : Type 0} → Archive → X → Type 0
Quietly a x = Unit {0}

-- the command of a call that only reads
abbrev pub unchanged : Archive → Result Archive ArchiveRefusal
unchanged a = Ok a
