-- What it means to copy a log into its database file.
use Rattle.std.specs.Prelude.{◌⊎◌, ◌<◌, ◌≤◌, ℕ, List, [], length}
use Rattle.sqlite_disk.specs.declared.Disk.{Ghosts}
use Rattle.sqlite_disk.specs.Disk.{MoreFaults}
use Rattle.sqlite_disk.specs.declared.Files.{Files}
use Rattle.sqlite_wal.specs.PageSize.{IsPageSize}
use Rattle.sqlite_wal.specs.Recovery.{Image, AddsNothing, RecoversAs, IsUnreadable}
use Rattle.sqlite_wal.specs.Files.{IsHuge, outcomes}
use Rattle.sqlite_wal.specs.declared.error.Error.{Error}
use Rattle.sqlite_wal.specs.declared.error.Error.TheVariants.{Io, OutOfMemory, Closed, NoSuchPage, Full, Corrupt, Exists}
use Rattle.sqlite.specs.Files.{NamesSize, faults_of, image_of}
use Rattle.record_files.specs.declared.closing.Closing.{Closing}
use Rattle.record_files.specs.declared.closing.Closing.TheVariants.{Copied, Logged, Shut}
use Rattle.record_files.specs.declared.closing.Hindrance.{Hindrance}
use Rattle.record_files.specs.declared.closing.Hindrance.TheVariants.{NoMemory, TooLong, Fault}

-- The files stand for whole pages of this size, which their headers name.
pub record AreReadable (image : Image) (size : ℕ) : Type 0 where
  pub allowed : IsPageSize size
  pub named : NamesSize image size
  pub readable : ¬ IsUnreadable size image

-- with pages of some size, 32 bits number no more frames of the log, or not all pages of the database file
abbrev pub IsTooLong : Image → Type 0
IsTooLong image = (size : ℕ) × (512 ≤ size) × IsHuge size image

-- the same two files, less what is in the log
abbrev pub without_log : Image → Image
without_log image = record image { log = [] }

-- A log of fewer octets than its header and the header of a frame has no frame (SQLite's file format, section 4.1).
abbrev pub HasNoFrame : List ℕ → Type 0
HasNoFrame log = length log < 56

module _ {D : Type 0} (g : Ghosts D) where
  -- whatever a crash leaves now, it might have left before
  abbrev pub LeavesNoMore : (old new : Files D) → Type 0
  LeavesNoMore old new = (image : Image) → outcomes g new.log new.db image → outcomes g old.log old.db image

  -- whatever a crash leaves now stands for the pages of something that it might have left before
  abbrev pub LeavesSame : (size : ℕ) (old new : Files D) → Type 0
  LeavesSame size old new = AddsNothing size (outcomes g old.log old.db) (outcomes g new.log new.db)

  -- whatever a crash leaves now, its database file alone stands for the pages that the two files stood for
  abbrev pub StandsAlone : (size : ℕ) (old new : Files D) → Type 0
  StandsAlone size old new =
      (image : Image) → outcomes g new.log new.db image → RecoversAs size (image_of g old) (without_log image)

  -- the log had no frame, and nothing was written, or the database file now has what it had
  abbrev pub IsMoved : (size : ℕ) (old new : Files D) → Type 0
  IsMoved size old new = (HasNoFrame (g.seen old.log) × LeavesNoMore old new) ⊎ StandsAlone size old new

  -- why the log was not copied: for lack of memory no cause is known
  abbrev pub HasHindrance : (old new : Files D) → Closing → Type 0
  HasHindrance old new Copied = Unit {0}
  HasHindrance old new (Logged NoMemory) = Unit {0}
  HasHindrance old new (Logged TooLong) = IsTooLong (image_of g new)
  HasHindrance old new (Logged Fault) = MoreFaults (faults_of g old) (faults_of g new)
  HasHindrance old new Shut = ⊥

abbrev pub hindrance : Error → Hindrance
hindrance (Io cause) = Fault
hindrance OutOfMemory = NoMemory
hindrance Closed = Fault
hindrance NoSuchPage = Fault
hindrance Full = TooLong
hindrance Corrupt = Fault
hindrance Exists = Fault
