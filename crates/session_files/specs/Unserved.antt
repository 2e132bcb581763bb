-- What the files keep where no session is served.
use Rattle.std.specs.Prelude.{◌≡◌, ◌⊎◌, Some, None, IsTrue}
use Rattle.sqlite_disk.specs.declared.Disk.{Ghosts}
use Rattle.sqlite_store.specs.FileStore.{view}
use Rattle.sqlite_store.specs.Unopened.{state_of}
use Rattle.sqlite.specs.WalReads.{AreClean}
use Rattle.sqlite.specs.WalFiles.{outcomes}
use Rattle.sqlite.specs.Recovery.{Image}
use Rattle.sqlite.specs.Tree.{Trees}
use Rattle.sqlite.specs.Effect.{Database, IsDatabase}
use Rattle.sqlite.specs.State.{State}
use Rattle.sqlite.specs.Closing.{files_left}
use Rattle.sqlite.specs.Files.{HoldsDatabase, IsCleanLeft}
use Rattle.sqlite.specs.declared.file.Leftover.{Leftover}
use Rattle.sqlite.specs.declared.file.Leftover.TheVariants as left
use Rattle.record_archive.specs.Archive.{Archive}
use Rattle.record_adoption.specs.Keeping.{StoresArchive}
use Rattle.record_files.specs.Files.{FindsAt}
use Rattle.session_files.specs.declared.session.NoSession.{NoSession}
use Rattle.session_files.specs.declared.session.NoSession.TheVariants.{Unadopted, Unopened, Unplaced}

-- these trees are those of a database that stores the archive, and is sound where the one before was
pub record TreesStore (was : Database) (trees : Trees) (a : Archive) : Type 0 where
  pub db : Database
  pub sound : IsDatabase was → IsDatabase db
  pub same : trees ≡ db.trees
  pub stored : StoresArchive db a

-- The files recover to a database that a crash might have left of the connection, or to one that stores the archive.
abbrev pub HoldsStill : State → Archive → Image → Type 0
HoldsStill before a image =
    ∥ ((trees : Trees) × (before.may_leave trees ⊎ TreesStore before.now trees a) × HoldsDatabase image trees) ∥₁

-- What an open that failed does not say of the files that it leaves: that it took their pages to end in sums where they
-- do, and that the trees of a store that it had made are numbered.
abbrev pub IsWellOpened : {D : Type 0} {g : Ghosts D} → Image → Leftover D g → Type 0
IsWellOpened image (left.Files now) = Unit {0}
IsWellOpened image (left.Unopened now) = (db : Trees) (held : HoldsDatabase image db) → held.0 ≡ (state_of now).page_size
IsWellOpened image (left.Store now) = IsTrue (view now).is_numbered

module _ {D : Type 0} {g : Ghosts D} (first : Image) (a : Archive) where
  -- Where the files held the archive at first, they keep it, whatever faults fell. Of files that the system did not open,
  -- or that were not to be opened, nothing is said.
  abbrev pub KeepsUnserved : NoSession D g → Type 0
  KeepsUnserved (Unopened e None) = Unit {0}
  KeepsUnserved (Unopened e (Some rest)) = IsCleanLeft rest → IsWellOpened first rest → (image : Image)
      → outcomes g (files_left rest).0 (files_left rest).1 image → ∥ FindsAt image a ∥₁
  KeepsUnserved (Unadopted fault files) = AreClean g files.log files.db → (image : Image)
      → outcomes g files.log files.db image → ∥ FindsAt image a ∥₁
  KeepsUnserved (Unplaced why) = Unit {0}
