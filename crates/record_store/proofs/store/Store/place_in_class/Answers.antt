use Rattle.std.proofs.Common.{◌∙◌, arith, sym}
use Rattle.record_tables.specs.Changes.{Always}
use Rattle.record_archive.specs.Archive.{Archive}
use Rattle.record_archive.specs.Refiling.{refiled}
use Rattle.record_store.specs.Companions.{LeavesBothWhere}
use Rattle.record_store.specs.Refiling.{IsRefiling, with_refiling}
use Rattle.record_store.proofs.CommandLemmas.{fell, stands_both, brought_both, leaves_both}
use Rattle.record_store.proofs.RefileLemmas.{refiled_is_archive, stores_refiled, next_refiled, count_refiled}
use Rattle.record_store.proofs.Causes.{behaves_busy}
use Rattle.record_store.proofs.store.Store.place_in_class.Given.{Over}
use Rattle.record_store.proofs.store.Store.place_in_class.Goals.{After-transact}
use Rattle.record_store.proofs.store.Store.place_in_class.Goals as goal

pub returns-in-Ok-clause-ok : goal.returns-in-Ok-clause-ok
returns-in-Ok-clause-ok g c = λ ready (a : Archive) s it.
    let n = c.args.number in
    let q = c.args.path.now in
    stands_both g.S.Store c.args.self.now a (refiled a n q) Always (with_refiling n q c.args.due) (g.D.Companion.needs c.args.companion)
    (g.D.Companion.brings c.args.companion) s ready _
    (refiled_is_archive a n q s.archive it.class) c.transact.ensures.idle s.plan (s.next ∙ sym (next_refiled a n q))
    s.held (λ m. let same = count_refiled a n q m in omega (arith, s.others m, same))
    (fell g.S.Store c.args.self.now.conn c.transact.new.conn _ c.transact.ensures.crash)
    c.transact.ensures.was_open c.in-Ok.ensures.ok
    (stores_refiled a n q c.args.due s.archive it)

pub returns-in-Ok-clause-brought : goal.returns-in-Ok-clause-brought
returns-in-Ok-clause-brought g c = λ (a : Archive) s ready it.
    brought_both g.S.Store c.args.self.now a a Always (with_refiling c.args.number c.args.path.now c.args.due) (g.D.Companion.needs
    c.args.companion) (g.D.Companion.brings c.args.companion) s ready c.transact.new.conn
    (λ was kept. tt) (fell g.S.Store c.args.self.now.conn c.transact.new.conn _ c.transact.ensures.crash)
    c.transact.ensures.was_open c.in-Ok.ensures.open c.in-Ok.ensures.ok

left : (g : Over) (c : After-transact g) → LeavesBothWhere g.S.Store (g.D.Companion.needs c.args.companion) (g.D.Companion.brings c.args.companion)
    c.args.self.now (record c.args.self.now { conn = c.transact.new.conn })
    (λ a. IsRefiling a c.args.number c.args.path.now c.args.due) (λ a. refiled a c.args.number c.args.path.now)
left g c = λ (a : Archive) s ready.
    let n = c.args.number in
    let q = c.args.path.now in
    leaves_both g.S.Store c.args.self.now a (refiled a n q) Always (with_refiling n q c.args.due) (g.D.Companion.needs c.args.companion)
    (g.D.Companion.brings c.args.companion) s ready c.transact.new.conn
    (IsRefiling a n q c.args.due) (λ it. refiled_is_archive a n q s.archive it.class) (λ was kept it. tt)
    (λ was db kept it turns. stores_refiled a n q c.args.due s.archive it was db kept turns)
    c.transact.ensures.live c.transact.ensures.crash

pub returns-in-Ok-clause-crash : goal.returns-in-Ok-clause-crash
returns-in-Ok-clause-crash g c = left g (goal.at.returns-in-Ok-clause-crash g c).After-transact

pub returns-in-Err-clause-crash : goal.returns-in-Err-clause-crash
returns-in-Err-clause-crash g c = left g (goal.at.returns-in-Err-clause-crash g c).After-transact

pub returns-then-not-is_autocommit-clause-behaves : goal.returns-then-not-is_autocommit-clause-behaves
returns-then-not-is_autocommit-clause-behaves g c =
    behaves_busy g.S.Store _ _ _ c.is_autocommit.ensures.value c.if-not-is_autocommit.true
