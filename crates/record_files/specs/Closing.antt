-- What the two files hold of a database once its connection is given up.
use Rattle.std.specs.Prelude.{◌≡◌, ◌≤◌, ℕ, [], IsTrue}
use Rattle.sqlite_disk.specs.Disk.{MoreFaults}
use Rattle.sqlite_disk.specs.declared.Disk.{Ghosts}
use Rattle.sqlite_disk.specs.declared.Files.{Files}
use Rattle.sqlite_store.specs.declared.store.FileStore.{FileStore}
use Rattle.sqlite_store.specs.FileStore.{faults, files as stored_files, state}
use Rattle.sqlite.specs.Tree.{Trees}
use Rattle.sqlite.specs.Recovery.{Image}
use Rattle.sqlite.specs.Effect.{IsDatabase}
use Rattle.sqlite.specs.Files.{HoldsDatabase, faults_of, image_of}
use Rattle.sqlite.specs.State.{State}
use Rattle.record_files.specs.Copying.{IsTooLong}
use Rattle.record_files.specs.declared.closing.Closing.{Closing}
use Rattle.record_files.specs.declared.closing.Closing.TheVariants.{Copied, Logged, Shut}
use Rattle.record_files.specs.declared.closing.Hindrance.TheVariants.{NoMemory, TooLong, Fault}

-- The connection was open, and its database is the one that the files recover to.
pub record HoldsNow (s : State) (image : Image) : Type 0 where
  pub was_open : IsTrue s.is_open
  pub sound : IsDatabase s.now
  pub held : ∥ HoldsDatabase image s.now.trees ∥₁

-- The files recover to a database that a crash at this moment of the connection may leave.
abbrev pub HoldsLeft : State → Image → Type 0
HoldsLeft s image = ∥ ((db : Trees) × s.may_leave db × HoldsDatabase image db) ∥₁

-- Where the log was copied, this holds of the files, and of the database file with no log; where it could not be
-- copied, of the two files together; and where a fault has shut the store, nothing is known of the last commit.
abbrev pub HoldsBy : Closing → (Image → Type 0) → Image → Type 0
HoldsBy Copied Holds image = Holds image × Holds (record image { log = [] })
HoldsBy (Logged why) Holds image = Holds image
HoldsBy Shut Holds image = Unit {0}

-- no fault of the disk has shut the store
abbrev pub IsLeftOpen : Closing → Type 0
IsLeftOpen Copied = Unit {0}
IsLeftOpen (Logged why) = Unit {0}
IsLeftOpen Shut = ⊥

-- no fault is forgotten: the store in the end had counted those before, and the files have counted those that it had
pub record HaveCounted {D : Type 0} (g : Ghosts D) (before : ℕ) (files : Files D) : Type 0 where
  pub last : FileStore D g
  pub counted : before ≤ faults last
  pub kept : (state last).faults ≤ faults_of g files

-- the same, and the disk has failed once more since the store was given up
pub record HaveFailed {D : Type 0} (g : Ghosts D) (before : ℕ) (files : Files D) : Type 0 where
  pub last : FileStore D g
  pub counted : before ≤ faults last
  pub failed : MoreFaults (state last).faults (faults_of g files)

-- A fault of the disk is reported of an open connection only where the disk has failed once more, and that the files
-- are too long only where they are. For lack of memory no cause is known.
abbrev pub HasCause : {D : Type 0} (g : Ghosts D) → (before : ℕ) → Files D → Closing → Type 0
HasCause g before files Copied = Unit {0}
HasCause g before files (Logged NoMemory) = Unit {0}
HasCause g before files (Logged TooLong) = IsTooLong (image_of g files)
HasCause g before files (Logged Fault) = HaveFailed g before files
HasCause {D} g before files Shut = (last : FileStore D g) × (stored_files last ≡ (files.log, files.db)) × MoreFaults before (faults last)

-- A fault of the disk had shut the connection. The files are as its store left them, and no fault is forgotten.
pub record IsShut {D : Type 0} (g : Ghosts D) (before : ℕ) (files : Files D) (closing : Closing) : Type 0 where
  pub told : closing ≡ Shut
  pub last : FileStore D g
  pub same : stored_files last ≡ (files.log, files.db)
  pub counted : before ≤ faults last
