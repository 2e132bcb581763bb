-- What the files keep of the archive that the database of a connection stores.
use Rattle.std.proofs.Common.{◌≡◌, false, IsTrue, sym, subst}
use Rattle.sqlite_disk.specs.declared.Disk.{Ghosts}
use Rattle.sqlite_disk.specs.declared.Files.{Files}
use Rattle.sqlite_store.specs.declared.store.FileStore.{FileStore}
use Rattle.sqlite.specs.Recovery.{Image}
use Rattle.sqlite.specs.State.{HasCleanDisk}
use Rattle.sqlite.specs.Held.{Held}
use Rattle.sqlite.specs.Files.{file_state}
use Rattle.record_archive.specs.Archive.{Archive, IsArchive}
use Rattle.record_adoption.specs.Keeping.{StoresArchive}
use Rattle.record_files.specs.Closing.{HoldsBy, HoldsNow, IsLeftOpen}
use Rattle.record_files.specs.Files.{KeepsAt, KeepsFiles, KeepsTogether}
use Rattle.record_files.specs.declared.closing.Closing.{Closing}
use Rattle.record_files.specs.declared.closing.Closing.TheVariants.{Copied, Logged, Shut}

-- a connection that is known by another name
module _ {D : Type 0} {g : Ghosts D} (kept conn : Held (FileStore D g)) (same : conn ≡ kept) where
  pub idle_alike : kept.in_transaction ≡ false → conn.in_transaction ≡ false
  idle_alike idle = let Idle : Held (FileStore D g) → Type 0 = λ h. h.in_transaction ≡ false in subst Idle (sym same) idle

  pub keeps_now : (a : Archive) → IsArchive a
      → (HasCleanDisk (file_state kept) → IsTrue (file_state kept).is_open → StoresArchive (file_state kept).now a)
      → HasCleanDisk (file_state conn) → (image : Image) → HoldsNow (file_state conn) image → KeepsAt a image
  keeps_now a archive rows clean image now =
      let Rows : Held (FileStore D g) → Type 0 = λ h. HasCleanDisk (file_state h) → IsTrue (file_state h).is_open
      → StoresArchive (file_state h).now a in
      record {
        db = (file_state conn).now;
        sound = now.sound;
        held = now.held;
        has = (subst Rows (sym same) rows clean now.was_open, archive);
      }

-- what holds of an image holds where it is claimed
pub holds_alike : (closing : Closing) (P Q : Image → Type 0) → ((image : Image) → P image → Q image) → (image : Image)
    → HoldsBy closing P image → HoldsBy closing Q image
holds_alike Copied P Q each image h = (each image h.0, each _ h.1)
holds_alike (Logged why) P Q each image h = each image h
holds_alike Shut P Q each image h = tt

-- where no fault has shut the store, the two files together keep what it had
pub keeps_both : {D : Type 0} (g : Ghosts D) (closing : Closing) (files : Files D) (a : Archive) → IsLeftOpen closing
    → KeepsFiles g closing files a → KeepsTogether g files a
keeps_both g Copied files a left keeps image may = (keeps image may).0
keeps_both g (Logged why) files a left keeps image may = keeps image may
keeps_both g Shut files a left keeps image may = absurd left
