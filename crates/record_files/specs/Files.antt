-- Which archive the two files of a store hold.
use Rattle.std.specs.Prelude.{◌≡◌, ◌⊎◌, false}
use Rattle.sqlite_disk.specs.declared.Disk.{Ghosts}
use Rattle.sqlite_disk.specs.declared.Files.{Files}
use Rattle.sqlite_disk.specs.declared.modelled.Modelled.{Modelled}
use Rattle.sqlite_disk.specs.declared.calls.Calls as calls
use Rattle.sqlite_disk.specs.declared.start.Start as start
use Rattle.sqlite_disk.specs.Modelled.{start_of}
use Rattle.sqlite_disk.specs.Events.{replay}
use Rattle.sqlite_disk.specs.History.{MayLeave}
use Rattle.sqlite.specs.Recovery.{Image}
use Rattle.sqlite.specs.Schema.{Schema}
use Rattle.sqlite.specs.WalFiles.{outcomes}
use Rattle.sqlite.specs.WalReads.{AreClean}
use Rattle.class_plan.specs.Plans.{Listing}
use Rattle.sqlite.specs.Effect.{Database, IsDatabase}
use Rattle.sqlite.specs.Files.{HoldsDatabase, IsNothing}
use Rattle.record_archive.specs.Archive.{Archive, IsArchive, empty_archive}
use Rattle.record_adoption.specs.Adoption.{Finds}
use Rattle.record_adoption.specs.Keeping.{StoresArchive}
use Rattle.record_files.specs.Closing.{HoldsBy}
use Rattle.record_files.specs.declared.closing.Closing.{Closing}

-- the files recover to a sound database, which has the archive in this way
pub record Holds (Has : Database → Archive → Type 0) (image : Image) (a : Archive) : Type 0 where
  pub db : Database
  pub sound : IsDatabase db
  pub held : ∥ HoldsDatabase image db.trees ∥₁
  pub has : Has db a

-- The archive that a session finds in the files: in tables of either version, or the empty one, where the database has
-- no table, or where there is none yet, as before the first opening and after a crash in it.
abbrev pub FindsAt : Image → Archive → Type 0
FindsAt image a = Holds Finds image a ⊎ (IsNothing image × (a ≡ empty_archive))

-- the tables of each sound database that the files recover to are of this kind
abbrev pub HoldsTables : (Schema → Type 0) → Image → Type 0
HoldsTables Are image = (db : Database) → IsDatabase db → ∥ HoldsDatabase image db.trees ∥₁ → Are db.schema

abbrev pub KeepsArchive : Database → Archive → Type 0
KeepsArchive db a = StoresArchive db a × IsArchive a

-- the files recover to a database that keeps the archive
abbrev pub KeepsAt : Archive → Image → Type 0
KeepsAt a image = Holds KeepsArchive image a

-- However the files are left, also by a crash, they recover to a database that keeps the archive, and so does the
-- database file with no log where that was copied. Where a fault has shut the store, see `HoldsLeft`.
abbrev pub KeepsFiles : {D : Type 0} → Ghosts D → Closing → Files D → Archive → Type 0
KeepsFiles g closing files a = (image : Image) → outcomes g files.log files.db image → HoldsBy closing (KeepsAt a) image

-- however the files are left, also by a crash, the two together recover to a database that keeps the archive
abbrev pub KeepsTogether : {D : Type 0} → Ghosts D → Files D → Archive → Type 0
KeepsTogether g files a = (image : Image) → outcomes g files.log files.db image → KeepsAt a image

-- These files held nothing. While the disk returns what was written, the two together now keep an archive of this plan
-- without records.
abbrev pub KeepsNew : {D : Type 0} → Ghosts D → (before : Image) → Listing → Files D → Type 0
KeepsNew g before plan files = AreClean g files.log files.db → IsNothing before →
    KeepsTogether g files (record empty_archive { plan = plan })

-- a file of the system, as a disk
abbrev pub system_file : {C S : Type 0} {g : calls.Ghosts C} (first : start.Ghosts S) → Ghosts (Modelled C S g first)
system_file {C} {S} {g} first = record {
  seen = λ f. (replay (start_of first f) (g.history f.calls)).seen;
  may_leave = λ f. let m = replay (start_of first f) (g.history f.calls) in
      MayLeave first.is_mixing m.seen m.synced m.steps;
  is_usable = λ f. (replay (start_of first f) (g.history f.calls)).is_usable;
  faults = λ f. (replay (start_of first f) (g.history f.calls)).faults;
  tally_of = λ f. let m = replay (start_of first f) (g.history f.calls) in
      record { caught = m.caught; refused = m.refused };
  is_clean = λ f. (replay (start_of first f) (g.history f.calls)).is_honest;
  key_of = λ f. (replay (start_of first f) (g.history f.calls)).key;
  is_fair = λ f. (replay (start_of first f) (g.history f.calls)).is_fair;
  is_frozen = λ _. false;
  is_rotten = λ _ _ _. false;
  is_mixing = λ _. first.is_mixing;
}
