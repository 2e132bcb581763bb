use Rattle.std.proofs.Common.{◌∙◌, arith, sym}
use Rattle.record_tables.specs.Changes.{Always}
use Rattle.record_tables.specs.CodeRows.{record_of}
use Rattle.record_archive.specs.Archive as archive
use Rattle.record_archive.specs.Archive.{Archive}
use Rattle.record_store.specs.Companions.{LeavesBothWhere}
use Rattle.record_store.specs.Destruction.{IsUnheld, with_destruction}
use Rattle.record_store.proofs.CommandLemmas.{fell, stands_both, brought_both, leaves_both}
use Rattle.record_store.proofs.DestroyLemmas.{keeps_destroyed, destroyed_archive, count_destroyed, next_destroyed, free_itself}
use Rattle.record_store.proofs.Causes.{behaves_busy}
use Rattle.record_store.proofs.store.Store.remove_record.Given.{Over}
use Rattle.record_store.proofs.store.Store.remove_record.Goals.{After-transact}
use Rattle.record_store.proofs.store.Store.remove_record.Goals as goal

pub returns-in-Ok-clause-ok : goal.returns-in-Ok-clause-ok
returns-in-Ok-clause-ok g c = λ ready (a : Archive) s free.
    let n = c.args.number in
    let r = record_of c.args.row.now in
    let last = c.last_body-last.result in
    stands_both g.S.Store c.args.self.now a (archive.without a r) Always (with_destruction n last) (g.D.Companion.needs c.args.companion)
    (g.D.Companion.brings c.args.companion) s ready _
    (destroyed_archive a n r s.archive free) c.transact.ensures.idle s.plan (s.next ∙ sym (next_destroyed a r))
    s.held (λ m. let sum = count_destroyed a r s.archive (free_itself a n r free) m in
    omega (arith, c.take.ensures m, s.others m, sum)) (fell g.S.Store c.args.self.now.conn c.transact.new.conn _ c.transact.ensures.crash)
    c.transact.ensures.was_open c.in-Ok.ensures.ok
    (keeps_destroyed g.S.Store c.args.self.now a s n r last free c.last_body-last.ensures)

pub returns-in-Ok-clause-brought : goal.returns-in-Ok-clause-brought
returns-in-Ok-clause-brought g c = λ (a : Archive) s ready free.
    brought_both g.S.Store c.args.self.now a a Always (with_destruction c.args.number c.last_body-last.result) (g.D.Companion.needs
    c.args.companion) (g.D.Companion.brings c.args.companion) s ready c.transact.new.conn
    (λ was kept. tt) (fell g.S.Store c.args.self.now.conn c.transact.new.conn _ c.transact.ensures.crash)
    c.transact.ensures.was_open c.in-Ok.ensures.open c.in-Ok.ensures.ok

left : (g : Over) (c : After-transact g) → LeavesBothWhere g.S.Store (g.D.Companion.needs c.args.companion) (g.D.Companion.brings c.args.companion)
    c.args.self.now (record c.args.self.now { conn = c.transact.new.conn })
    (λ a. IsUnheld a c.args.number (record_of c.args.row.now)) (λ a. archive.without a (record_of c.args.row.now))
left g c = λ (a : Archive) s ready.
    let n = c.args.number in
    let r = record_of c.args.row.now in
    let last = c.last_body-last.result in
    leaves_both g.S.Store c.args.self.now a (archive.without a r) Always (with_destruction n last) (g.D.Companion.needs c.args.companion)
    (g.D.Companion.brings c.args.companion) s ready c.transact.new.conn
    (IsUnheld a n r) (destroyed_archive a n r s.archive) (λ was kept free. tt) (λ was db kept free turns.
    keeps_destroyed g.S.Store c.args.self.now a s n r last free c.last_body-last.ensures was db kept turns)
    c.transact.ensures.live c.transact.ensures.crash

pub returns-in-Ok-clause-crash : goal.returns-in-Ok-clause-crash
returns-in-Ok-clause-crash g c = left g (goal.at.returns-in-Ok-clause-crash g c).After-transact

pub returns-in-Err-clause-crash : goal.returns-in-Err-clause-crash
returns-in-Err-clause-crash g c = left g (goal.at.returns-in-Err-clause-crash g c).After-transact

pub returns-then-not-is_autocommit-clause-behaves : goal.returns-then-not-is_autocommit-clause-behaves
returns-then-not-is_autocommit-clause-behaves g c =
    behaves_busy g.S.Store _ _ _ c.is_autocommit.ensures.value c.if-not-is_autocommit.true
