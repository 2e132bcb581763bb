use Rattle.std.proofs.Common.{◌≡◌, ℕ, ◌+◌, Err, IsTrue, sym, ap, subst, ◌∙◌}
use Rattle.sqlite_wal.specs.Log.{image as log_image, state}
use Rattle.sqlite_wal.specs.Recovery.{Image, IsUnreadable, RecoversAs}
use Rattle.sqlite_wal.specs.Files.{IsHuge, outcomes, seen_image}
use Rattle.sqlite_wal.specs.declared.error.Error.TheVariants.{Full}
use Rattle.sqlite_wal.specs.Reads.{AreClean}
use Rattle.sqlite.specs.Files.{image_of}
use Rattle.record_files.specs.Copying.{AreReadable, HasHindrance, without_log}
use Rattle.record_files.specs.declared.closing.Closing.TheVariants.{Logged}
use Rattle.record_files.proofs.CopyingLemmas.{hindered, size_is}
use Rattle.record_files.proofs.copying.copy_frames.Goals as goal
use Rattle.record_files.proofs.copying.copy_frames.Given as given
use Rattle.record_files.proofs.copying.copy_frames.Goals.{in-Ok-move_frames, in-Err-move_frames}

module _ (g : given.Over) (c : goal.After-into_files g) (honest : AreClean g.D.Disk c.into_files.result.log c.into_files.result.db) where
  sure : IsTrue (state c.move_frames.new.log).is_clean
  sure = subst (λ p. AreClean g.D.Disk p.0 p.1) c.into_files.ensures honest

  -- the log has the two files as the probe left them
  probed : AreClean g.D.Disk c.probe_page_size.new.files.log c.probe_page_size.new.files.db
  probed = subst (λ p. AreClean g.D.Disk p.0 p.1) c.in-Ok.ensures.files (c.move_frames.ensures.clean sure)

  sized : (size : ℕ) → AreReadable (image_of g.D.Disk c.args.files) size → (state c.in-Ok.log).page_size ≡ size
  sized size are = c.in-Ok.ensures.size ∙ size_is (image_of g.D.Disk c.args.files) c.in-Ok-Some.field-0
      (c.in-Ok-Some.ensures.by_log probed) (c.in-Ok-Some.ensures.by_file probed) size are c.in-Ok-Some.size c.in-Ok-Some.field-0-is

  may_be : (left : Image) → outcomes g.D.Disk c.into_files.result.log c.into_files.result.db left → (state c.move_frames.new.log).may_leave left
  may_be left may = (sure, subst (λ p. outcomes g.D.Disk p.0 p.1 left) c.into_files.ensures may)

  seen_same : log_image c.in-Ok.log ≡ image_of g.D.Disk c.args.files
  seen_same = ap (λ p. seen_image g.D.Disk p.0 p.1) c.in-Ok.ensures.files
      ∙ (λ i. record { log = c.probe_page_size.ensures.log.seen i; db = c.probe_page_size.ensures.db.seen i })

pub returns-clause-same : goal.returns-clause-same
returns-clause-same g c honest size are left may =
    let (before, was, stands) = c.move_frames.ensures.same left (may_be g c honest left may) in
    let old = subst (λ p. outcomes g.D.Disk p.0 p.1 before) c.in-Ok.ensures.files was.1 in (
      before,
      (c.probe_page_size.ensures.log.crash before.log old.0, c.probe_page_size.ensures.db.crash before.db old.1),
      subst (λ (n : ℕ). RecoversAs n before left) (sized g c honest size are) stands,
    )

pub returns-clause-alone : goal.returns-clause-alone
returns-clause-alone g c honest size are copied = elim c.match-move_frames.branch [
  | in-Ok-move_frames w ↦ λ left may.
      subst (λ i. RecoversAs size i (without_log left)) (seen_same g c honest)
      (subst (λ (n : ℕ). RecoversAs n (log_image c.in-Ok.log) (without_log left)) (sized g c honest size are)
      (w.in-Ok-move_frames.ensures.alone (sure g c honest) left (may_be g c honest left may)))
  | in-Err-move_frames w ↦ absurd (let e = sym copied ∙ w.closing-is in cc)
]

pub returns-clause-cause : goal.returns-clause-cause
returns-clause-cause g c honest size are = elim c.match-move_frames.branch [
  | in-Ok-move_frames w ↦ subst (HasHindrance g.D.Disk c.args.files c.into_files.result) (sym w.closing-is) tt
  | in-Err-move_frames w ↦
      let first = c.in-Ok.log in
      let last = c.move_frames.new.log in
      let told = w.closing-is ∙ ap Logged w.hindrance_of.ensures in
      let readable = subst (λ i. ¬ IsUnreadable (state first).page_size i) (sym (seen_same g c honest))
      (subst (λ (n : ℕ). ¬ IsUnreadable n (image_of g.D.Disk c.args.files)) (sym (sized g c honest size are)) are.readable) in
      let huge = λ (full : w.in-Err-move_frames.error ≡ Full). subst (λ p. IsHuge (state first).page_size (seen_image g.D.Disk p.0 p.1)) (sym
      c.into_files.ensures)
      (w.in-Err-move_frames.ensures.long (sure g c honest) (ap Err full)) in
      subst (HasHindrance g.D.Disk c.args.files c.into_files.result) (sym told)
      (hindered g.D.Disk c.args.files c.into_files.result (state first).faults (state last).faults (state first).page_size (log_image first)
      (ap (λ p. g.D.Disk.faults p.0 + g.D.Disk.faults p.1) c.in-Ok.ensures.files ∙ c.in-Ok-Some.ensures.faults)
      (ap (λ p. g.D.Disk.faults p.0 + g.D.Disk.faults p.1) (sym c.into_files.ensures)) first.smallest readable
      w.in-Err-move_frames.error (w.in-Err-move_frames.ensures.cause.0 (sure g c honest)) huge)
]
