-- What a log is, once it is copied.
use Rattle.std.proofs.Common.{◌≡◌, ◌≢◌, ◌≤◌, ℕ, [], length, Option, Some, Result, Ok, Err, IsTrue, refl, sym, ap, subst, ◌∙◌, inl, inr, arith}
use Rattle.std.specs.Prelude.{OnOk}
use Rattle.std.proofs.lemmas.Bool.{cases_eq}
use Rattle.sqlite_disk.specs.declared.Disk.{Ghosts}
use Rattle.sqlite_disk.specs.declared.Files.{Files}
use Rattle.sqlite_wal.specs.declared.error.Error.{Error}
use Rattle.sqlite_wal.specs.declared.error.Error.TheVariants.{Io, OutOfMemory, Closed, NoSuchPage, Full, Corrupt, Exists}
use Rattle.sqlite_wal.specs.declared.log.Log.{Log}
use Rattle.sqlite_wal.specs.declared.page_size.PageSize.{PageSize}
use Rattle.sqlite_wal.specs.PageSize.{bytes_of, size_in_file, Names}
use Rattle.sqlite_wal.specs.Format.{be32}
use Rattle.sqlite_wal.specs.Recovery.{Image, IsIgnored, IsUnreadable, Recovers, pages_after}
use Rattle.sqlite_wal.specs.Files.{IsHuge, RefusesToRecover}
use Rattle.sqlite_wal.specs.Outcome.{HasCause}
use Rattle.sqlite_wal.specs.Log.{durable, frames, state}
use Rattle.sqlite_wal.proofs.StateLemmas.{ready_of}
use Rattle.sqlite_wal.proofs.FileLemmas.{pages_without_frames}
use Rattle.sqlite_wal.proofs.LogLemmas.{durable_frames, sound_of}
use Rattle.sqlite.specs.Files.{faults_of, image_of}
use Rattle.record_files.specs.Copying.{AreReadable, HasHindrance, hindrance, without_log}
use Rattle.record_files.specs.declared.closing.Closing.TheVariants.{Logged}

pub on_ok_both : {T E P Q R : Type 0} (r : Result T E) → OnOk r P → OnOk r Q → (P → Q → R) → OnOk r R
on_ok_both (Ok x) p q f = f p q
on_ok_both (Err e) p q f = tt

-- where a log has no frame, the database file alone stands for what is committed, whatever a crash leaves
pub recovers_alone : {D : Type 0} {g : Ghosts D} (it : Log D g) → IsTrue (state it).is_open → frames it ≡ 0
    → (left : Image) → (state it).may_leave left → Recovers (state it).page_size (without_log left) (state it).committed
recovers_alone {D} {g} it on empty left may =
    let ready = ready_of (state it) on in
    let none : length (durable it).numbers ≡ 0 = durable_frames it ready ∙ omega (arith, it.marked ready, empty) in
    let kept = (sound_of it on).db_safe left.db may.1.1 in
    record {
      frames = 0;
      replays = inl (inl (omega arith), refl);
      present = kept.present;
      gives = ap (λ d. pages_after it.page_size [] d 0) (kept.all none) ∙ pages_without_frames it.page_size [] (g.seen it.log) (g.seen it.db)
          ∙ ap (pages_after it.page_size (g.seen it.log) (g.seen it.db)) (sym none);
    }

-- the probe finds the size of the pages that the files stand for
module _ (image : Image) (found : Option PageSize) (by_log : ¬ IsIgnored image.log → Names found (be32 image.log 8))
    (by_file : IsIgnored image.log → Names found (size_in_file image.db)) (size : ℕ) (are : AreReadable image size) where
  names : ¬ (¬ Names found size)
  names never =
      let read = λ (seen : ¬ IsIgnored image.log). never (subst (Names found) (sym (are.named.0 seen)) (by_log seen)) in
      read (λ ignored. never (subst (Names found) (sym (are.named.1 ignored)) (by_file ignored)))

  pub size_is : (chosen : PageSize) → found ≡ Some chosen → bytes_of chosen ≡ size
  size_is chosen is = elim (cases_eq (bytes_of chosen) size) [
    | inl same ↦ same
    | inr other ↦ absurd (names (λ named. other (rw is at named.1)))
  ]

-- why a copy that failed was hindered
module _ {D : Type 0} (g : Ghosts D) (old new : Files D) (a b size : ℕ) (image : Image) (first : a ≡ faults_of g old) (last : b ≡ faults_of g new)
    (large : 512 ≤ size) (readable : ¬ IsUnreadable size image) where
  refuses_other : (e : Error) → e ≢ Corrupt → e ≢ Full → ¬ RefusesToRecover size image e
  refuses_other e not_corrupt not_full (inl corrupt) = not_corrupt corrupt.0
  refuses_other e not_corrupt not_full (inr full) = not_full full.0

  pub hindered : (e : Error) → HasCause a b (RefusesToRecover size image) e → (e ≡ Full → IsHuge size (image_of g new))
      → HasHindrance g old new (Logged (hindrance e))
  hindered (Io cause) more long = omega (arith, more, first, last)
  hindered OutOfMemory more long = tt
  hindered Closed more long = absurd (refuses_other Closed (λ e. cc) (λ e. cc) more)
  hindered NoSuchPage more long = absurd (refuses_other NoSuchPage (λ e. cc) (λ e. cc) more)
  hindered Full more long = (size, large, long refl)
  hindered Corrupt more long = absurd (elim more [ inl corrupt ↦ readable corrupt.1 | inr full ↦ let e = full.0 in cc ])
  hindered Exists more long = absurd (refuses_other Exists (λ e. cc) (λ e. cc) more)
