use Rattle.std.proofs.Common.{not, ap, subst, ◌∙◌, arith}
use Rattle.sqlite_wal.specs.Reads.{AreClean}
use Rattle.sqlite_wal.specs.Files.{outcomes}
use Rattle.sqlite_pool.proofs.StateLemmas.{clean_is, may_leave_is}
use Rattle.sqlite_trees.specs.View.{IsClean}
use Rattle.sqlite_trees.proofs.Doubt.{no_doubt}
use Rattle.sqlite_store.specs.FileStore.{view}
use Rattle.record_files.proofs.ClosingLemmas.{left_now, left_some}
use Rattle.record_files.proofs.closing.leave.Goals as goal

pub returns-clause-clean : goal.returns-clause-clean
returns-clause-clean g c honest =
    let back = c.into_store.result in
    let sure = subst (λ p. AreClean g.D.Disk p.0 p.1) c.close.ensures honest in
    let none : IsClean (view back) = no_doubt _ (clean_is back.pool ∙ sure) in
    omega (arith, c.into_store.ensures.quiet.clean)

pub returns-clause-holds : goal.returns-clause-holds
returns-clause-holds g c honest idle on image may =
    let back = c.into_store.result in
    let sure = subst (λ p. AreClean g.D.Disk p.0 p.1) c.close.ensures honest in
    let none : IsClean (view back) = no_doubt _ (clean_is back.pool ∙ sure) in
    let made = c.into_store.ensures in
    let settled = c.is_autocommit-settled.ensures.settled (c.is_autocommit-settled.ensures.value ∙ ap not idle) on in
    left_now c.args.conn on c.schema-live.ensures.live settled
    g.met.D.Disk.seen_may_stay back (made.numbered none) (made.sound none) made.quiet.outcomes image image
    (may_leave_is back.pool image sure (subst (λ p. outcomes g.D.Disk p.0 p.1 image) c.close.ensures may)) (λ pages was. was)

pub returns-clause-leaves : goal.returns-clause-leaves
returns-clause-leaves g c honest image may =
    let back = c.into_store.result in
    let sure = subst (λ p. AreClean g.D.Disk p.0 p.1) c.close.ensures honest in
    let none : IsClean (view back) = no_doubt _ (clean_is back.pool ∙ sure) in
    let made = c.into_store.ensures in
    left_some c.args.conn back (made.numbered none) (made.sound none) made.quiet.outcomes image image
    (may_leave_is back.pool image sure (subst (λ p. outcomes g.D.Disk p.0 p.1 image) c.close.ensures may)) (λ pages was. was)
