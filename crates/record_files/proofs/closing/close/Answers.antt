use Rattle.std.proofs.Common.{◌+◌, not, IsTrue, sym, ap, subst, ◌∙◌, refl, inl, inr, arith}
use Rattle.std.proofs.lemmas.Bool.{false≢true}
use Rattle.sqlite_wal.specs.Reads.{AreClean}
use Rattle.sqlite_wal.specs.Files.{outcomes}
use Rattle.sqlite_pool.specs.Stored.{stored_size}
use Rattle.sqlite_pool.proofs.StateLemmas.{clean_is, may_leave_is, open_usable}
use Rattle.sqlite_trees.specs.View.{IsClean}
use Rattle.sqlite_trees.proofs.Doubt.{no_doubt}
use Rattle.sqlite_store.specs.FileStore.{files, state, view}
use Rattle.sqlite_store.specs.Laws.{not_broken}
use Rattle.sqlite.specs.Recovery.{Image}
use Rattle.sqlite.specs.Files.{HoldsDatabase, file_state, image_of}
use Rattle.sqlite.proofs.Theorems.{copied}
use Rattle.record_files.specs.Closing.{HoldsNow}
use Rattle.record_files.specs.Copying.{AreReadable, HasNoFrame, without_log}
use Rattle.record_files.proofs.ClosingLemmas.{are_readable, by_closing, by_hindrance, holds_now, left_now, left_some}
use Rattle.record_files.proofs.PoolLemmas.{faults_is, has_none}
use Rattle.record_files.proofs.closing.close.Goals as goal
use Rattle.record_files.proofs.closing.close.Given as given

-- ---- a store that a fault had shut

pub returns-then-is_broken-clause-clean : goal.returns-then-is_broken-clause-clean
returns-then-is_broken-clause-clean g c honest =
    let back = c.into_store-store.result in
    let sure = subst (λ p. AreClean g.D.Disk p.0 p.1) c.close.ensures honest in
    let none : IsClean (view back) = no_doubt _ (clean_is back.pool ∙ sure) in
    omega (arith, c.into_store-store.ensures.quiet.clean)

pub returns-then-is_broken-clause-leaves : goal.returns-then-is_broken-clause-leaves
returns-then-is_broken-clause-leaves g c honest image may =
    let back = c.into_store-store.result in
    let made = c.into_store-store.ensures in
    let sure = subst (λ p. AreClean g.D.Disk p.0 p.1) c.close.ensures honest in
    let none : IsClean (view back) = no_doubt _ (clean_is back.pool ∙ sure) in
    left_some c.args.conn back (made.numbered none) (made.sound none) made.quiet.outcomes image image
    (may_leave_is back.pool image sure (subst (λ p. outcomes g.D.Disk p.0 p.1 image) c.close.ensures may)) (λ pages was. was)

pub returns-then-is_broken-clause-cause : goal.returns-then-is_broken-clause-cause
returns-then-is_broken-clause-cause g c honest on =
    let back = c.into_store-store.result in
    let made = c.into_store-store.ensures in
    let sure = subst (λ p. AreClean g.D.Disk p.0 p.1) c.close.ensures honest in
    let none : IsClean (view back) = no_doubt _ (clean_is back.pool ∙ sure) in (
      back,
      sym c.close.ensures,
      elim (made.quiet.closes none on) [
        | inl still ↦ absurd (false≢true (sym (made.undone.undone still).1 ∙ sym (c.is_broken.ensures.shown none) ∙ c.if-is_broken.true))
        | inr more ↦ more
      ],
    )

pub returns-then-is_broken-clause-shut : goal.returns-then-is_broken-clause-shut
returns-then-is_broken-clause-shut g c honest closed = record {
  told = refl;
  last = c.into_store-store.result;
  same = sym c.close.ensures;
  counted = c.into_store-store.ensures.quiet.counts;
}

pub returns-then-is_broken-clause-counts : goal.returns-then-is_broken-clause-counts
returns-then-is_broken-clause-counts g c =
    let back = c.into_store-store.result in
    let same = faults_is back.pool ∙ ap (λ p. g.D.Disk.faults p.0 + g.D.Disk.faults p.1) (sym c.close.ensures) in
    record { last = back; counted = c.into_store-store.ensures.quiet.counts; kept = omega (arith, same) }

-- ---- a store that is open

pub copy_log-requires-clause-log : goal.copy_log-requires-clause-log
copy_log-requires-clause-log g c =
    let ready = (not_broken _ _ (sym c.is_broken.ensures.real ∙ c.if-is_broken.false)).1 in
    subst (λ p. IsTrue (g.D.Disk.is_usable p.0)) (sym c.close-2.ensures) (open_usable c.into_store-store.result.pool ready).0

pub copy_log-requires-clause-db : goal.copy_log-requires-clause-db
copy_log-requires-clause-db g c =
    let ready = (not_broken _ _ (sym c.is_broken.ensures.real ∙ c.if-is_broken.false)).1 in
    subst (λ p. IsTrue (g.D.Disk.is_usable p.1)) (sym c.close-2.ensures) (open_usable c.into_store-store.result.pool ready).1

module _ (g : given.Over) (c : goal.After-copy_log g) (honest : AreClean g.D.Disk c.copy_log.result.0.log c.copy_log.result.0.db) where
  sure : AreClean g.D.Disk c.close-2.result.log c.close-2.result.db
  sure = c.copy_log.ensures.clean honest

  stored : AreClean g.D.Disk (files c.into_store-store.result).0 (files c.into_store-store.result).1
  stored = subst (λ p. AreClean g.D.Disk p.0 p.1) c.close-2.ensures sure

  none : IsClean (view c.into_store-store.result)
  none = no_doubt _ (clean_is c.into_store-store.result.pool ∙ stored)

  open_now : IsTrue (view c.into_store-store.result).is_open
  open_now = (not_broken _ _ (sym (c.is_broken.ensures.shown none) ∙ c.if-is_broken.false)).1

  was_open : IsTrue (view c.args.conn.store).is_open
  was_open = (c.into_store-store.ensures.undone.kept none).was_open open_now

  left : (image : Image) → outcomes g.D.Disk c.close-2.result.log c.close-2.result.db image → (state c.into_store-store.result).may_leave image
  left image may = may_leave_is c.into_store-store.result.pool image stored (subst (λ p. outcomes g.D.Disk p.0 p.1 image) c.close-2.ensures may)

  seen_left : (state c.into_store-store.result).may_leave (image_of g.D.Disk c.close-2.result)
  seen_left = let stays = g.met.D.Disk.seen_may_stay in left _ (stays _, stays _)

  readable : AreReadable (image_of g.D.Disk c.close-2.result) (stored_size (state c.into_store-store.result).page_size)
  readable = are_readable c.into_store-store.result (c.into_store-store.ensures.numbered none) (c.into_store-store.ensures.sound none) _ seen_left

pub returns-clause-clean : goal.returns-clause-clean
returns-clause-clean g c honest = omega (arith, none g c honest, c.into_store-store.ensures.quiet.clean)

pub returns-clause-holds : goal.returns-clause-holds
returns-clause-holds g c honest idle image may =
    let conn = c.args.conn in
    let back = c.into_store-store.result in
    let made = c.into_store-store.ensures in
    let files = c.close-2.result in
    let stays = g.met.D.Disk.seen_may_stay in
    let clean = none g c honest in
    let on = was_open g c honest in
    let still = open_now g c honest in
    let settled = c.is_autocommit-settled.ensures.settled (c.is_autocommit-settled.ensures.value ∙ ap not idle) on in
    let now = left_now conn on c.schema-live.ensures.live settled stays back (made.numbered clean) (made.sound clean) made.quiet.outcomes in
    let (before, was, same) = c.copy_log.ensures.same honest _ (readable g c honest) image may in
    by_closing c.copy_log.result.1 (HoldsNow (file_state conn)) image (now before image (left g c honest before was) same)
    (λ told. elim (c.copy_log.ensures.alone honest _ (readable g c honest) told) [
      | inl unmoved ↦
          let frames = has_none back.pool still (subst (λ p. HasNoFrame (g.D.Disk.seen p.0)) c.close-2.ensures unmoved.0) in
          holds_now conn on c.schema-live.ensures.live settled (without_log image)
          (subst (λ db. ∥ HoldsDatabase (without_log image) db ∥₁) ((made.undone.kept clean).committed still)
          (copied back stays still (made.numbered clean) (made.sound clean) frames image (left g c honest image (unmoved.1 image may))).alone)
      | inr alone ↦ now (image_of g.D.Disk files) (without_log image) (seen_left g c honest) (alone image may)
    ])

pub returns-clause-leaves : goal.returns-clause-leaves
returns-clause-leaves g c honest image may =
    let made = c.into_store-store.ensures in
    let clean = none g c honest in
    let (before, was, same) = c.copy_log.ensures.same honest _ (readable g c honest) image may in
    left_some c.args.conn c.into_store-store.result (made.numbered clean) (made.sound clean) made.quiet.outcomes before image
    (left g c honest before was) same

pub returns-clause-cause : goal.returns-clause-cause
returns-clause-cause g c honest on =
    let back = c.into_store-store.result in
    let same = faults_is back.pool ∙ ap (λ p. g.D.Disk.faults p.0 + g.D.Disk.faults p.1) (sym c.close-2.ensures) in
    by_hindrance g.D.Disk _ c.close-2.result c.copy_log.result.0 back same c.into_store-store.ensures.quiet.counts
    c.copy_log.result.1 (c.copy_log.ensures.cause honest _ (readable g c honest))

pub returns-clause-shut : goal.returns-clause-shut
returns-clause-shut g c honest closed = absurd (false≢true (sym closed ∙ was_open g c honest))

pub returns-clause-counts : goal.returns-clause-counts
returns-clause-counts g c =
    let back = c.into_store-store.result in
    let same = faults_is back.pool ∙ ap (λ p. g.D.Disk.faults p.0 + g.D.Disk.faults p.1) (sym c.close-2.ensures) in
    record { last = back; counted = c.into_store-store.ensures.quiet.counts; kept = omega (arith, same, c.copy_log.ensures.counts) }
