-- Why no session is served over files that hold an archive.
use Rattle.std.specs.Prelude.{◌≡◌, ◌⊎◌, ◌<◌, Some, None, true}
use Rattle.sqlite_disk.specs.declared.Disk.{Ghosts}
use Rattle.sqlite.specs.WalReads.{AreClean}
use Rattle.sqlite.specs.Files.{IsCleanLeft, IsFullLeft, faults_left}
use Rattle.sqlite.specs.declared.error.Error.{Error}
use Rattle.sqlite.specs.declared.error.Error.TheVariants.{SqliteFailure}
use Rattle.sqlite.specs.declared.error.ErrorCode.TheVariants.{CannotOpen, DatabaseBusy, DiskFull, OutOfMemory}
use Rattle.sqlite.specs.declared.file.Leftover.{Leftover}
use Rattle.record_archive.specs.Faults.{is_trouble}
use Rattle.session_files.specs.declared.session.NoSession.{NoSession}
use Rattle.session_files.specs.declared.session.NoSession.TheVariants.{Unadopted, Unopened, Unplaced}

-- The system opened no files: it refused, there was no memory, or another program has them.
abbrev pub IsRefusedBySystem : Error → Type 0
IsRefusedBySystem e =
    (e ≡ SqliteFailure CannotOpen) ⊎ ((e ≡ SqliteFailure OutOfMemory) ⊎ (e ≡ SqliteFailure DatabaseBusy))

module _ {D : Type 0} {g : Ghosts D} where
  -- The files were opened, and then there was no memory, the disk failed, or they are as long as their format allows.
  abbrev pub StopsOpening : Leftover D g → Error → Type 0
  StopsOpening left e =
      (e ≡ SqliteFailure OutOfMemory)
      ⊎ ((0 < faults_left left) ⊎ ((e ≡ SqliteFailure DiskFull) × IsFullLeft left))

  -- One of these is the cause, or the database refused (89), or there was no memory (99), or no store may be at the path,
  -- for the cause that is answered.
  abbrev pub RefusalHasCause : NoSession D g → Type 0
  RefusalHasCause (Unopened e None) = IsRefusedBySystem e
  RefusalHasCause (Unopened e (Some left)) = IsCleanLeft left → StopsOpening left e
  RefusalHasCause (Unadopted fault files) = AreClean g files.log files.db → is_trouble fault ≡ true
  RefusalHasCause (Unplaced why) = Unit {0}
