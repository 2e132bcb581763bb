-- What the filing of an outcome makes of an archive.
use Rattle.std.specs.Prelude.{◌≡◌, ◌⊎◌, ℕ, List, map, false, None, Result, Ok, Err, OnOk, Vec}
use Rattle.std.specs.declared.alloc.Global.{Global}
use Rattle.record_archive.specs.Archive.{Archive, capture, capture_lines, AreClasses}
use Rattle.record_archive.specs.Lines.{line_view}
use Rattle.record_archive.specs.Calls.{Keeper, KeepsMade, Makes}
use Rattle.record_archive.specs.declared.fault.ArchiveRefusal.TheVariants.{Full}
use Rattle.record_archive.specs.declared.line.Line.{Line}
use Rattle.desk_commands.specs.Answers.{refused}
use Rattle.desk_commands.specs.ArchiveAnswers.{is_refused_outside}
use Rattle.desk_commands.specs.Faults.{refused_by}
use Rattle.desk_commands.specs.Office.{IsTrouble}
use Rattle.desk_commands.specs.declared.fault.DeskFault.{DeskFault}

-- there is no memory (99) or the database refuses (89), or else the archive itself refuses
abbrev pub IsArchiveFault : DeskFault → Type 0
IsArchiveFault f = ((n : ℕ) × IsTrouble n × (refused_by f ≡ refused n None))
    ⊎ (is_refused_outside (refused_by f) ≡ false)

-- nothing is filed: there is no memory (99), the database refuses (89), or the numbers of records are used up (87)
pub record IsNotFiled (a : Archive) (body : List ℕ) (on : ℕ) (classes : List (List ℕ)) (f : DeskFault) : Type 0 where
  pub number : ℕ
  pub told : refused_by f ≡ refused number None
  pub reason : IsTrouble number ⊎ ((number ≡ 87) × (capture a body on classes ≡ Err Full))

-- the capture of a message in these classes is made whole, or not at all
abbrev pub MakesRecords : {A : Type 0} → Keeper A Archive → (old new : A) → (body : List ℕ) (day : ℕ)
    (classes : List (List ℕ)) → Result (Vec Line Global) DeskFault → Type 0
MakesRecords keeper old new body day classes (Ok lines) =
    keeper.clean new → (a : Archive) → keeper.stands old a → Makes (keeper.stands new) (capture a body day classes) ×
    (map line_view lines.items ≡ capture_lines a day classes)
MakesRecords keeper old new body day classes (Err f) =
    (a : Archive) → keeper.stands old a → AreClasses a.plan classes → keeper.stands new a ×
    (keeper.clean new → IsNotFiled a body day classes f)

-- What a crash may leave after the capture is what a crash might have left before, or keeps the archive with it; and
-- where the capture is made, it keeps that.
pub record FilesSafely {A : Type 0} (keeper : Keeper A Archive) (old new : A) (body : List ℕ) (day : ℕ)
    (classes : List (List ℕ)) (result : Result (Vec Line Global) DeskFault) : Type 0 where
  pub crash : keeper.clean new → (a : Archive) → keeper.stands old a → (image : keeper.remains) → keeper.may_leave new image →
      keeper.may_leave old image ⊎ KeepsMade keeper.keeps image (capture a body day classes)
  pub kept : OnOk result (keeper.clean new → (a : Archive) → keeper.stands old a → (image : keeper.remains) →
      keeper.may_leave new image → KeepsMade keeper.keeps image (capture a body day classes))
